use Rattle.std.proofs.Common.{◌≡◌, rules}
use Rattle.std.specs.Prelude.{option_copied}
use Rattle.mode_values.specs.ModeMatch.{mode_of}
use Rattle.pmodes.proofs.ListLemmas.{found_matches, none_matches}
use Rattle.pmodes.proofs.modes.Modes.of.Goals as goal

pub returns-clause-matched : goal.returns-clause-matched
returns-clause-matched c = found_matches c.mode_of.result _ c.args.header.now c.mode_of.ensures

pub returns-clause-none : goal.returns-clause-none
returns-clause-none c =
    let value : option_copied c.mode_of.result ≡ mode_of c.args.self.now c.args.header.now = search rules in
    none_matches c.mode_of.result c.args.self.now c.args.header.now value
