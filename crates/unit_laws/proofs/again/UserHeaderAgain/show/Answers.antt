use Rattle.std.proofs.Common.{◌≡◌}
use Rattle.std.specs.Prelude.{Some}
use Rattle.std.specs.List.{AllByRecursion}
use Rattle.message_model.specs.UnitTree.{property_tree, part_tree}
use Rattle.header_reader.specs.User.{property_of, part_of}
use Rattle.unit_laws.specs.Kept.{IsKept}
use Rattle.unit_laws.proofs.UserAgain.{user_again, parties_again, collaboration_again}
use Rattle.unit_laws.proofs.UserKept.{user_kept, sides_kept, business_kept}
use Rattle.unit_laws.proofs.again.UserHeaderAgain.show.Goals as goal

pub returns-clause-again : goal.returns-clause-again
returns-clause-again c =
    let h = c.args.self.now in
    let properties : AllByRecursion (λ p. property_of (property_tree p) ≡ Some p) h.properties = rw c.items.ensures at c.show_all.ensures.again in
    let parts : AllByRecursion (λ p. part_of (part_tree p) ≡ Some p) h.parts = rw c.items-2.ensures at c.show_all-2.ensures.again in
    user_again h (record {
      mpc = c.show.ensures.again;
      info = c.show_info.ensures.again;
      sides = parties_again h.from h.to c.show-2.ensures.again.0 c.show-3.ensures.again.1;
      business = collaboration_again h.agreement h.service h.action h.conversation
          c.show-4.ensures.again c.show-5.ensures.again c.show-6.ensures.again c.show-7.ensures.again;
      properties = properties;
      parts = parts;
    })

pub returns-clause-kept : goal.returns-clause-kept
returns-clause-kept c =
    let h = c.args.self.now in
    let properties : AllByRecursion (λ p. IsKept 1 (property_tree p)) h.properties = rw c.items.ensures at c.show_all.ensures.kept in
    let parts : AllByRecursion (λ p. IsKept 3 (part_tree p)) h.parts = rw c.items-2.ensures at c.show_all-2.ensures.kept in
    user_kept h (record {
      mpc = c.show.ensures.kept;
      info = c.show_info.ensures.kept;
      sides = sides_kept h.from h.to c.show-2.ensures.kept.0 c.show-3.ensures.kept.1;
      business = business_kept h.agreement h.service h.action h.conversation
          c.show-4.ensures.kept c.show-5.ensures.kept c.show-6.ensures.kept c.show-7.ensures.kept;
      properties = properties;
      parts = parts;
    })
