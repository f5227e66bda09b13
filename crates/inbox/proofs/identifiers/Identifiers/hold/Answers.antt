use Rattle.std.proofs.Common.{rules, ◌≡◌, ◌||◌, Some, None, sym, ap, subst, ◌∙◌}
use Rattle.std.specs.Prelude.{IsSome}
use Rattle.std.specs.Option.{option_copied_mut}
use Rattle.std.proofs.lemmas.Bool.{false≢true}
use Rattle.std.specs.Str.{bytes_eq}
use Rattle.inbox.specs.Holding.{hold_of, is_held}
use Rattle.inbox.specs.declared.identifiers.Hold.TheVariants as hold
use Rattle.inbox.proofs.HoldingLemmas.{one_more_held}
use Rattle.inbox.proofs.identifiers.Identifiers.hold.Goals as goal
use Rattle.inbox.proofs.identifiers.Identifiers.hold.Goals.{in-Some-get_mut, in_default-get_mut}

pub returns-clause-held : goal.returns-clause-held
returns-clause-held c = λ room id there.
    let same : c.in-Some.id ≡ room = cc in
    elim c.match-get_mut.branch [
      | in-Some-get_mut w ↦
          ap (is_held id) w.self-is
          ∙ one_more_held c.args.self.now.holds (c.get_mut.follows.lender hold.Came) c.in-Some.id
          ((c.get_mut.follows.holds hold.Came).3 (search rules)) id
          ∙ ap (λ key. is_held id c.args.self.now || bytes_eq key id) same
      | in_default-get_mut w ↦ absurd
          (let there_is : IsSome (hold_of c.in-Some.id c.args.self.now) = c.requires c.in-Some.id (there ∙ ap Some (sym same)) in
          let none : hold_of c.in-Some.id c.args.self.now ≡ None =
          sym c.get_mut.ensures.value ∙ ap option_copied_mut w.in_default-get_mut.is in
          false≢true (subst IsSome none there_is))
    ]
