-- A line that is sent in parts.
use Rattle.std.proofs.Common.{◌≡◌, ℕ, List, ◌++◌, Option, codes, ap, ◌∙◌}
use Rattle.std.specs.Fmt.{decimal}
use Rattle.as4_flow.specs.Flow.{TakesFront, appended}
use Rattle.as4_flow.proofs.FlowLemmas.{appended_append, takes_longer, takes_more}
use Rattle.relayer.specs.Relaying.{line_of}

module _ (number : ℕ) (id : List ℕ) (start : Option (List ℕ)) where
  -- after one part, two, three and four
  abbrev pub first : List ℕ
  first = codes "relayed "

  abbrev pub second : List ℕ
  second = codes "relayed " ++ decimal number

  abbrev pub third : List ℕ
  third = codes "relayed " ++ decimal number ++ codes " "

  abbrev pub fourth : List ℕ
  fourth = codes "relayed " ++ decimal number ++ codes " " ++ id

  -- one part more was sent whole
  pub then_sent : (before part : List ℕ) (taken later : Option (List ℕ)) → taken ≡ appended start before → later ≡ appended taken part → later ≡ appended start (before ++ part)
  then_sent before part taken later was is = is ∙ ap (λ t. appended t part) was ∙ appended_append start before part

  pub sent_2 : (printed : List ℕ) (one two : Option (List ℕ)) → printed ≡ decimal number → one ≡ appended start (codes "relayed ") → two ≡ appended one printed
      → two ≡ appended start second
  sent_2 printed one two is was sent = then_sent first (decimal number) one two was (sent ∙ ap (appended one) is)

  pub sent_3 : (two three : Option (List ℕ)) → two ≡ appended start second → three ≡ appended two (codes " ") → three ≡ appended start third
  sent_3 two three was sent = then_sent second (codes " ") two three was sent

  pub sent_4 : (three four : Option (List ℕ)) → three ≡ appended start third → four ≡ appended three id → four ≡ appended start fourth
  sent_4 three four was sent = then_sent third id three four was sent

  pub front_1 : (now : Option (List ℕ)) → TakesFront (codes "relayed ") start now → TakesFront (line_of number id) start now
  unfolding line_of
  front_1 now front = takes_longer fourth (codes "\n") start now (takes_longer third id start now (takes_longer second (codes " ") start now (takes_longer first (decimal number) start now front)))

  pub front_2 : (taken now : Option (List ℕ)) → taken ≡ appended start (codes "relayed ") → TakesFront (decimal number) taken now → TakesFront (line_of number id) start now
  unfolding line_of
  front_2 taken now was front =
      takes_longer fourth (codes "\n") start now (takes_longer third id start now (takes_longer second (codes " ") start now (takes_more first (decimal number) start taken now was front)))

  pub front_3 : (taken now : Option (List ℕ)) → taken ≡ appended start second → TakesFront (codes " ") taken now → TakesFront (line_of number id) start now
  unfolding line_of
  front_3 taken now was front = takes_longer fourth (codes "\n") start now (takes_longer third id start now (takes_more second (codes " ") start taken now was front))

  pub front_4 : (taken now : Option (List ℕ)) → taken ≡ appended start third → TakesFront id taken now → TakesFront (line_of number id) start now
  unfolding line_of
  front_4 taken now was front = takes_longer fourth (codes "\n") start now (takes_more third id start taken now was front)

  pub front_5 : (taken now : Option (List ℕ)) → taken ≡ appended start fourth → TakesFront (codes "\n") taken now → TakesFront (line_of number id) start now
  unfolding line_of
  front_5 taken now was front = takes_more fourth (codes "\n") start taken now was front

  pub whole_line : (taken now : Option (List ℕ)) → taken ≡ appended start fourth → now ≡ appended taken (codes "\n") → now ≡ appended start (line_of number id)
  unfolding line_of
  whole_line taken now was is = then_sent fourth (codes "\n") taken now was is
