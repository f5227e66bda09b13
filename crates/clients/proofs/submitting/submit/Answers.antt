use Rattle.std.proofs.Common.{[], None}
use Rattle.clients.specs.Requests.{submit_request}
use Rattle.clients.proofs.AddressLemmas.{submit_addresses}
use Rattle.clients.proofs.AnswerLemmas.{submit_answer}
use Rattle.clients.proofs.EndLemmas.{submit_counts}
use Rattle.clients.proofs.SentLemmas.{submit_sends}
use Rattle.clients.proofs.submitting.submit.Goals as goal

pub returns : goal.returns
returns g c =
    let request = submit_request c.args.address.now c.args.mode.now c.args.conversation.now c.args.media.now c.args.document.now in
    let submits = c.submit_made.ensures request c.submit_request-request.ensures in
    let counts = submit_counts g.H.Host g.H.Dialer.Link c.args.address.now request
    c.args.host.now c.submit_made.new.host c.submit_made.result submits in record {
      submits = submits;
      reads = counts.reads;
      writes = counts.writes;
      faults = counts.faults;
      answered = submit_answer g.H.Dialer.Link c.args.address.now None g.H.Host [] request c.args.host.now c.submit_made.new.host c.submit_made.result submits;
      sent = submit_sends g.H.Host g.H.Dialer.Link c.args.address.now [] None request c.args.host.now c.submit_made.new.host c.submit_made.result submits;
      addresses = submit_addresses g.H.Dialer.Link c.args.address.now g.H.Host [] request c.args.host.now c.submit_made.new.host c.submit_made.result submits;
    }
