use Rattle.carrier.proofs.CarriedLemmas.{carried, goes, may_be_paired}
use Rattle.carrier.proofs.carrying.carry.Goals as goal

pub returns-clause-carried : goal.returns-clause-carried
returns-clause-carried c =
    carried c.one_request.ensures c.request_read_back.ensures c.leaves_all_that_may_be.ensures.picks c.args.message.now
    (c.a_message_is_read_as_itself.ensures (may_be_paired c.args.message.now c.requires.comes)) c.its_answer_is_read_as_itself.ensures
    c.args.office.now c.serve-ended.new.office c.args.pass.now c.serve-ended.new.pass c.in-Ok.request c.args.stamp c.args.nonce
    c.serve-ended.result.0 c.serve-ended.result.1 c.told.result c.in-Ok.ensures c.told.ensures.told c.serve-ended.ensures.serves c.told.ensures.none

pub returns-clause-bytes : goal.returns-clause-bytes
returns-clause-bytes c =
    goes c.one_request.ensures c.request_read_back.ensures c.leaves_all_that_may_be.ensures.picks c.args.message.now
    (c.a_message_is_read_as_itself.ensures (may_be_paired c.args.message.now c.requires.comes)) c.its_answer_is_read_as_itself.ensures
    c.args.office.now c.serve-ended.new.office c.args.pass.now c.serve-ended.new.pass c.in-Ok.request c.args.stamp c.args.nonce
    c.serve-ended.result.0 c.serve-ended.result.1 c.told.result c.in-Ok.ensures c.told.ensures.told c.serve-ended.ensures.serves c.told.ensures.none
