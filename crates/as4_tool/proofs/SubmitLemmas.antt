-- Which counts of faults rise with the status of a submission.
use Rattle.std.proofs.Common.{◌≡◌, ◌≢◌, ◌⊎◌, inl, inr, ℕ, List, Option, ap, sym, ◌∙◌, arith}
use Rattle.clients.specs.Causes.{RisesIf, submit_faults, submit_reads, submit_writes}
use Rattle.clients.specs.declared.ending.SubmitEnd.{SubmitEnd}
use Rattle.clients.specs.declared.ending.SubmitEnd.TheVariants as submit
use Rattle.as4_tool.specs.Ends.{TellsFaults, WritesAs}
use Rattle.as4_tool.specs.Runs.{Shows, ShowsFaults, TellsEither}
use Rattle.as4_tool.specs.Status.{code_of}
use Rattle.as4_tool.specs.declared.status.Status.{Status}
use Rattle.as4_tool.specs.declared.status.Status.TheVariants.{BadResponse, BadWords, Done, HostFault, NoMemory, NotUser, ReadFault, Refused, TooLong, WriteFault}

-- the status is that of the text, or the output has failed
text_code : (end status : Status) (text : List ℕ) (taken later : Option (List ℕ)) → WritesAs end text status taken later
    → (code_of status ≡ code_of end) ⊎ (code_of status ≡ 4)
text_code end status text taken later (inl all) = inl (ap code_of all.0)
text_code end status text taken later (inr front) = inr (ap code_of front.0)

neither : (code other one : ℕ) → other ≢ one → other ≢ 4 → (code ≡ one) ⊎ (code ≡ 4) → code ≢ other
neither code other one first second (inl is) same = first (sym same ∙ is)
neither code other one first second (inr is) same = second (sym same ∙ is)

-- no status of a submission is one of these
pub no_other_status : (end : SubmitEnd) (status : Status) (taken later : Option (List ℕ)) → Shows end status taken later
    → (code_of status ≢ code_of TooLong) × (code_of status ≢ code_of NotUser) × (code_of status ≢ code_of BadWords)
no_other_status (submit.Accepted text) status taken later shows =
    let code = text_code Done status text taken later shows in (
      neither (code_of status) 11 (code_of Done) (omega arith) (omega arith) code,
      neither (code_of status) 7 (code_of Done) (omega arith) (omega arith) code,
      neither (code_of status) 64 (code_of Done) (omega arith) (omega arith) code,
    )
no_other_status (submit.Refused number text) status taken later shows =
    let code = text_code Refused status text taken later shows in (
      neither (code_of status) 11 (code_of Refused) (omega arith) (omega arith) code,
      neither (code_of status) 7 (code_of Refused) (omega arith) (omega arith) code,
      neither (code_of status) 64 (code_of Refused) (omega arith) (omega arith) code,
    )
no_other_status submit.BadResponse status taken later shows =
    let code : code_of status ≡ code_of BadResponse = ap code_of shows.0 in
    (λ is. omega (arith, is, code), λ is. omega (arith, is, code), λ is. omega (arith, is, code))
no_other_status submit.LinkFault status taken later shows =
    let code : code_of status ≡ code_of HostFault = ap code_of shows.0 in
    (λ is. omega (arith, is, code), λ is. omega (arith, is, code), λ is. omega (arith, is, code))
no_other_status submit.WriteFault status taken later shows =
    let code : code_of status ≡ code_of WriteFault = ap code_of shows.0 in
    (λ is. omega (arith, is, code), λ is. omega (arith, is, code), λ is. omega (arith, is, code))
no_other_status submit.ReadFault status taken later shows =
    let code : code_of status ≡ code_of ReadFault = ap code_of shows.0 in
    (λ is. omega (arith, is, code), λ is. omega (arith, is, code), λ is. omega (arith, is, code))
no_other_status submit.NoMemory status taken later shows =
    let code : code_of status ≡ code_of NoMemory = ap code_of shows.0 in
    (λ is. omega (arith, is, code), λ is. omega (arith, is, code), λ is. omega (arith, is, code))

-- status 3: the host's reads, as the input hasn't failed
pub tells_reads : (end : SubmitEnd) (status : Status) (taken later : Option (List ℕ)) (input input_later reads reads_later : ℕ)
    → Shows end status taken later → input_later ≡ input → RisesIf (submit_reads end) reads reads_later
    → TellsEither ReadFault (code_of status) input input_later reads reads_later
tells_reads (submit.Accepted text) status taken later input input_later reads reads_later shows quiet same =
    (λ is. absurd (neither (code_of status) 3 (code_of Done) (omega arith) (omega arith) (text_code Done status text taken later shows) is), λ other. (quiet, same))
tells_reads (submit.Refused number text) status taken later input input_later reads reads_later shows quiet same =
    (λ is. absurd (neither (code_of status) 3 (code_of Refused) (omega arith) (omega arith) (text_code Refused status text taken later shows) is), λ other. (quiet, same))
tells_reads submit.BadResponse status taken later input input_later reads reads_later shows quiet same =
    let code : code_of status ≡ code_of BadResponse = ap code_of shows.0 in
    (λ is. absurd (omega (arith, is, code)), λ other. (quiet, same))
tells_reads submit.LinkFault status taken later input input_later reads reads_later shows quiet same =
    let code : code_of status ≡ code_of HostFault = ap code_of shows.0 in
    (λ is. absurd (omega (arith, is, code)), λ other. (quiet, same))
tells_reads submit.WriteFault status taken later input input_later reads reads_later shows quiet same =
    let code : code_of status ≡ code_of WriteFault = ap code_of shows.0 in
    (λ is. absurd (omega (arith, is, code)), λ other. (quiet, same))
tells_reads submit.ReadFault status taken later input input_later reads reads_later shows quiet rose =
    (λ is. inr rose, λ other. absurd (other (ap code_of shows.0)))
tells_reads submit.NoMemory status taken later input input_later reads reads_later shows quiet same =
    let code : code_of status ≡ code_of NoMemory = ap code_of shows.0 in
    (λ is. absurd (omega (arith, is, code)), λ other. (quiet, same))

-- status 4: the host's writes or the output
pub tells_writes : (end : SubmitEnd) (status : Status) (taken later : Option (List ℕ)) (output output_later writes writes_later : ℕ)
    → Shows end status taken later → ShowsFaults end status output output_later → RisesIf (submit_writes end) writes writes_later
    → TellsEither WriteFault (code_of status) output output_later writes writes_later
tells_writes (submit.Accepted text) status taken later output output_later writes writes_later shows faults same =
    (λ is. inl (faults.0 is), λ other. (faults.1 other, same))
tells_writes (submit.Refused number text) status taken later output output_later writes writes_later shows faults same =
    (λ is. inl (faults.0 is), λ other. (faults.1 other, same))
tells_writes submit.BadResponse status taken later output output_later writes writes_later shows faults same =
    let code : code_of status ≡ code_of BadResponse = ap code_of shows.0 in
    (λ is. absurd (omega (arith, is, code)), λ other. (faults, same))
tells_writes submit.LinkFault status taken later output output_later writes writes_later shows faults same =
    let code : code_of status ≡ code_of HostFault = ap code_of shows.0 in
    (λ is. absurd (omega (arith, is, code)), λ other. (faults, same))
tells_writes submit.WriteFault status taken later output output_later writes writes_later shows faults rose =
    (λ is. inr rose, λ other. absurd (other (ap code_of shows.0)))
tells_writes submit.ReadFault status taken later output output_later writes writes_later shows faults same =
    let code : code_of status ≡ code_of ReadFault = ap code_of shows.0 in
    (λ is. absurd (omega (arith, is, code)), λ other. (faults, same))
tells_writes submit.NoMemory status taken later output output_later writes writes_later shows faults same =
    let code : code_of status ≡ code_of NoMemory = ap code_of shows.0 in
    (λ is. absurd (omega (arith, is, code)), λ other. (faults, same))

-- status 9: the host's faults
pub tells_host : (end : SubmitEnd) (status : Status) (taken later : Option (List ℕ)) (count count_later : ℕ)
    → Shows end status taken later → RisesIf (submit_faults end) count count_later → TellsFaults HostFault (code_of status) count count_later
tells_host (submit.Accepted text) status taken later count count_later shows same =
    (λ is. absurd (neither (code_of status) 9 (code_of Done) (omega arith) (omega arith) (text_code Done status text taken later shows) is), λ other. same)
tells_host (submit.Refused number text) status taken later count count_later shows same =
    (λ is. absurd (neither (code_of status) 9 (code_of Refused) (omega arith) (omega arith) (text_code Refused status text taken later shows) is), λ other. same)
tells_host submit.BadResponse status taken later count count_later shows same =
    let code : code_of status ≡ code_of BadResponse = ap code_of shows.0 in
    (λ is. absurd (omega (arith, is, code)), λ other. same)
tells_host submit.LinkFault status taken later count count_later shows rose =
    (λ is. rose, λ other. absurd (other (ap code_of shows.0)))
tells_host submit.WriteFault status taken later count count_later shows same =
    let code : code_of status ≡ code_of WriteFault = ap code_of shows.0 in
    (λ is. absurd (omega (arith, is, code)), λ other. same)
tells_host submit.ReadFault status taken later count count_later shows same =
    let code : code_of status ≡ code_of ReadFault = ap code_of shows.0 in
    (λ is. absurd (omega (arith, is, code)), λ other. same)
tells_host submit.NoMemory status taken later count count_later shows same =
    let code : code_of status ≡ code_of NoMemory = ap code_of shows.0 in
    (λ is. absurd (omega (arith, is, code)), λ other. same)

-- unless the status is 0, 1 or 4, nothing was written
pub shows_silent : (end : SubmitEnd) (status : Status) (taken later : Option (List ℕ)) → Shows end status taken later
    → code_of status ≢ code_of Done → code_of status ≢ code_of Refused → code_of status ≢ code_of WriteFault → later ≡ taken
shows_silent (submit.Accepted text) status taken later shows done refused fault = never (text_code Done status text taken later shows)
  where
    never : (code_of status ≡ code_of Done) ⊎ (code_of status ≡ 4) → later ≡ taken
    never (inl is) = absurd (done is)
    never (inr is) = absurd (fault is)
shows_silent (submit.Refused number text) status taken later shows done refused fault = never (text_code Refused status text taken later shows)
  where
    never : (code_of status ≡ code_of Refused) ⊎ (code_of status ≡ 4) → later ≡ taken
    never (inl is) = absurd (refused is)
    never (inr is) = absurd (fault is)
shows_silent submit.BadResponse status taken later shows done refused fault = shows.1
shows_silent submit.LinkFault status taken later shows done refused fault = shows.1
shows_silent submit.WriteFault status taken later shows done refused fault = shows.1
shows_silent submit.ReadFault status taken later shows done refused fault = shows.1
shows_silent submit.NoMemory status taken later shows done refused fault = shows.1
