use Rattle.std.proofs.Common.{◌+◌, ◌≤◌, ◌^◌, length, refl, arith}
use Rattle.exchange_model.specs.Apply.{applied}
use Rattle.journal.specs.Store.{leaf_of}
use Rattle.msh_recovery.specs.Records.{RecordLeads}
use Rattle.office.proofs.step_to_make.write_frame.Goals as goal

pub append_effects-requires : goal.append_effects-requires
append_effects-requires g c =
    let ready = c.requires.ready in
    record { ready = (ready.0, ready.2.is, ready.3) }

pub returns-in-Ok-clause-appends : goal.returns-in-Ok-clause-appends
returns-in-Ok-clause-appends g c end places effects is body fits =
    let journal = c.args.journal.now in
    let ready = c.requires.ready in
    let kept = is.is in
    let was = ready.2.is in
    let leads : RecordLeads c.args.frame.now end (applied effects end) = (effects, body, fits, refl) in
    let room : end.size + (length c.args.frame.now + 9) ≤ 2 ^ 32 = omega (arith, kept.size, was.size, ready.3) in
    record {
      kept = λ ok. c.in-Ok.ensures.held end places effects is body fits;
      any_moment = c.append_effects.ensures.any_moment end (applied effects end) kept leads;
      writes = record {
        part = leaf_of journal.is_second;
        gate = journal.gate;
        body = c.args.frame.now;
        leads = leads;
        puts = c.a_record_is_put.ensures journal end (applied effects end) c.args.frame.now kept leads room;
        calls = c.in-Ok.ensures.calls;
      };
    }

pub returns-in-Err-Disk-clause-appends : goal.returns-in-Err-Disk-clause-appends
returns-in-Err-Disk-clause-appends g c end places effects is body fits =
    let journal = c.args.journal.now in
    let ready = c.requires.ready in
    let kept = is.is in
    let was = ready.2.is in
    let leads : RecordLeads c.args.frame.now end (applied effects end) = (effects, body, fits, refl) in
    let room : end.size + (length c.args.frame.now + 9) ≤ 2 ^ 32 = omega (arith, kept.size, was.size, ready.3) in
    record {
      kept = λ ok. absurd cc;
      any_moment = c.append_effects.ensures.any_moment end (applied effects end) kept leads;
      writes = record {
        part = leaf_of journal.is_second;
        gate = journal.gate;
        body = c.args.frame.now;
        leads = leads;
        puts = c.a_record_is_put.ensures journal end (applied effects end) c.args.frame.now kept leads room;
        calls = c.in-Err-Disk.ensures.calls;
      };
    }
