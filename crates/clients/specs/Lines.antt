-- What the lines of a collection say of the files.
use Rattle.std.specs.Prelude.{◌≡◌, ◌≢◌, ◌⊎◌, ◌+◌, ◌<◌, ◌≤◌, ℕ, zero, suc, List, [], ◌++◌, Option, Some}
use Rattle.as4_flow.specs.Flow.{TakesFront, Told, appended}
use Rattle.as4_host.specs.Lists.{first_of, without_first}
use Rattle.as4_host.specs.declared.host.Host.{Ghosts as HostMeaning}
use Rattle.as4_http.specs.Responses.{BeginsResponse}
use Rattle.as4_http.specs.declared.message.Response.{Response}
use Rattle.clients.specs.Runs.{file_of, file_path, line_of}
use Rattle.clients.specs.declared.ending.CollectEnd.{CollectEnd}
use Rattle.clients.specs.declared.ending.CollectEnd.TheVariants as collect
use Rattle.clients.specs.declared.ending.Visit.TheVariants as visit

-- the answers after the first j
abbrev pub skip : ℕ → Option (List (List ℕ)) → Option (List (List ℕ))
skip zero answers = answers
skip (suc j) answers = without_first (skip j answers)

-- the bytes of answer j, counted from 0
abbrev pub answer_of : ℕ → Option (List (List ℕ)) → Option (List ℕ)
answer_of j answers = first_of (skip j answers)

-- the lines were written; or a prefix of them, and the output failed
abbrev pub HasOutput : CollectEnd → List ℕ → Option (List ℕ) → Option (List ℕ) → Type 0
HasOutput collect.OutputFault bytes old new = TakesFront bytes old new
HasOutput end bytes old new = new ≡ appended old bytes

module _ {H Store Door DoorIn DoorOut Dialer DialerIn DialerOut Time Dice : Type 0} (M : HostMeaning H Store Door DoorIn DoorOut Dialer DialerIn DialerOut Time Dice)
    (folder : List ℕ) where
  -- a file of no number that was asked for is as it was
  abbrev pub KeepsOthers : ℕ → ℕ → H → H → Type 0
  KeepsOthers first count old new =
      (path : List ℕ) → ((n : ℕ) → first ≤ n → n < first + count → path ≢ file_path folder n) → M.file new path ≡ M.file old path

  module _ (answers : Option (List (List ℕ))) where
    -- the file of entry n is the message file of a response with status 200, with which one of the answers begins
    pub record IsKept (n : ℕ) (host : H) : Type 0 where
      pub number : ℕ
      pub response : Response
      pub came : Told (answer_of number answers) (λ stream. (rest : List ℕ) × BeginsResponse stream response rest)
      pub status : response.status ≡ 200
      pub file : Told (M.file host (file_path folder n)) (λ held. held ≡ Some (file_of response))

    -- the line of a number: it says `gone`; or it says `collected`, and the file is there
    abbrev pub IsLine : ℕ → H → List ℕ → Type 0
    IsLine n host line = (line ≡ line_of n visit.Gone) ⊎ ((line ≡ line_of n visit.Collected) × IsKept n host)

    -- the lines of this number of entries, one after another
    abbrev pub AreLines : ℕ → ℕ → H → List ℕ → Type 0
    AreLines first zero host bytes = bytes ≡ []
    AreLines first (suc k) host bytes =
        (before : List ℕ) × (line : List ℕ) × AreLines first k host before × IsLine (first + k) host line × (bytes ≡ before ++ line)

    -- a collection wrote the lines of at most this number of entries; if it is done, of all
    pub record WritesLines (first count : ℕ) (host : H) (old new : Option (List ℕ)) (end : CollectEnd) : Type 0 where
      pub entries : ℕ
      pub few : entries ≤ count
      pub all : end ≡ collect.Done → entries ≡ count
      pub bytes : List ℕ
      pub lines : AreLines first entries host bytes
      pub output : HasOutput end bytes old new
