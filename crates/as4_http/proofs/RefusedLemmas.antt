-- Lemmas on what is said of refused bytes, at the exits of functions.
use Rattle.std.proofs.Common.{◌≡◌, ℕ, List, [], ◌++◌, Option, Result, Ok, Err, refl, ap, sym, ◌∙◌, subst, append_assoc}
use Rattle.std.specs.Prelude.{IfErr}
use Rattle.std.specs.Result.{IsErrAnd, IsErrOf}
use Rattle.as4_flow.specs.Flow.{Told, before}
use Rattle.as4_http.specs.Limits.{Limits, the_limits}
use Rattle.as4_http.specs.Refused.{IsStop, OnRefusal, OnRefused, Dooms, MayBecome, Refuses, Denies}
use Rattle.as4_http.specs.declared.refusal.HttpRefusal.{HttpRefusal}
use Rattle.as4_http.specs.declared.refusal.HttpRefusal.TheVariants.{Cut, Bad, TooLong, ReadFault, NoMemory}
use Rattle.as4_http.proofs.StreamLemmas.{told_behind, told_end, dooms_behind, dooms_told}

-- what holds anyway holds of refused bytes
pub refusal_any : {P : Type 0} (refusal : HttpRefusal) → P → OnRefusal refusal P
refusal_any Cut fact = fact
refusal_any Bad fact = fact
refusal_any TooLong fact = fact
refusal_any ReadFault fact = tt
refusal_any NoMemory fact = tt

pub refused_any : {X P : Type 0} (r : Result X HttpRefusal) → P → OnRefused r P
refused_any (Ok x) fact = tt
refused_any (Err refusal) fact = refusal_any refusal fact

-- ---- at the exits

-- at the exit of a `?`, which hands the refusal on
pub refused_exit : {X : Type 0} {P Q : HttpRefusal → Type 0} (r : Result X HttpRefusal) (refusal : HttpRefusal) → IsErrAnd r (λ y. y ≡ refusal) → ((y : HttpRefusal) → P y → Q y) → P refusal → IfErr r Q
refused_exit (Ok x) refusal same weaker fact = tt
refused_exit {P = P} (Err y) refusal same weaker fact = weaker y (subst P (sym same) fact)

pub refused_weaker : {X : Type 0} {P Q : HttpRefusal → Type 0} (r : Result X HttpRefusal) → ((y : HttpRefusal) → P y → Q y) → IfErr r P → IfErr r Q
refused_weaker (Ok x) weaker fact = tt
refused_weaker (Err y) weaker fact = weaker y fact

-- what is refused of the rest of a stream, and says something of the whole
pub refuses_behind : (P Q : Limits → List ℕ → Type 0) (B C : List ℕ → Type 0) (told now left : Option (List ℕ)) (front : List ℕ) → told ≡ before front now → ((limits : Limits) (rest : List ℕ) → P limits rest → Q limits (front ++ rest)) → ((rest : List ℕ) → B rest → C (front ++ rest)) → (refusal : HttpRefusal) → Refuses P B now left refusal → Refuses Q C told left refusal
refuses_behind P Q B C told now left front is on cut Cut fact = told_behind (λ stream. P the_limits stream × B stream) (λ stream. Q the_limits stream × C stream) told now front is (λ rest both. (on the_limits rest both.0, cut rest both.1)) fact
refuses_behind P Q B C told now left front is on cut Bad fact = dooms_behind (λ rest. (limits : Limits) → P limits rest) (λ bytes. (limits : Limits) → Q limits bytes) told now left front is (λ rest none limits. on limits rest (none limits)) fact
refuses_behind P Q B C told now left front is on cut TooLong fact = dooms_behind (P the_limits) (Q the_limits) told now left front is (on the_limits) fact
refuses_behind P Q B C told now left front is on cut ReadFault fact = tt
refuses_behind P Q B C told now left front is on cut NoMemory fact = tt

-- the same where nothing stands before it
pub refuses_as : (P Q : Limits → List ℕ → Type 0) (B C : List ℕ → Type 0) (told left : Option (List ℕ)) → ((limits : Limits) (bytes : List ℕ) → P limits bytes → Q limits bytes) → ((bytes : List ℕ) → B bytes → C bytes) → (refusal : HttpRefusal) → Refuses P B told left refusal → Refuses Q C told left refusal
refuses_as P Q B C told left on cut Cut fact = λ stream tells. let both = fact stream tells in (on the_limits stream both.0, cut stream both.1)
refuses_as P Q B C told left on cut Bad fact = record { read = fact.read; taken = fact.taken; doomed = λ more limits. on limits (fact.read ++ more) (fact.doomed more limits) }
refuses_as P Q B C told left on cut TooLong fact = record { read = fact.read; taken = fact.taken; doomed = λ more. on the_limits (fact.read ++ more) (fact.doomed more) }
refuses_as P Q B C told left on cut ReadFault fact = tt
refuses_as P Q B C told left on cut NoMemory fact = tt

-- where the source has ended or failed, or memory ran out
stop_refuses : (P : Limits → List ℕ → Type 0) (B N : List ℕ → Type 0) (told left : Option (List ℕ)) (refusal : HttpRefusal) → IsStop refusal → ((stream : List ℕ) → N stream → P the_limits stream × B stream) → OnRefusal refusal (Told told N) → Refuses P B told left refusal
stop_refuses P B N told left Cut stop on fact = λ stream tells. on stream (fact stream tells)
stop_refuses P B N told left Bad stop on fact = absurd stop
stop_refuses P B N told left TooLong stop on fact = absurd stop
stop_refuses P B N told left ReadFault stop on fact = tt
stop_refuses P B N told left NoMemory stop on fact = tt

pub stop_exit : {X : Type 0} (P : Limits → List ℕ → Type 0) (B N : List ℕ → Type 0) (told left : Option (List ℕ)) (r : Result X HttpRefusal) (refusal : HttpRefusal) → IsErrAnd r (λ y. y ≡ refusal) → IsStop refusal → ((stream : List ℕ) → N stream → P the_limits stream × B stream) → OnRefusal refusal (Told told N) → IfErr r (Refuses P B told left)
stop_exit P B N told left (Ok x) refusal same stop on fact = tt
stop_exit P B N told left (Err y) refusal same stop on fact = subst (Refuses P B told left) (sym same) (stop_refuses P B N told left refusal stop on fact)

-- the same where bytes are held
end_refuses : (P : Limits → List ℕ → Type 0) (B : List ℕ → Type 0) (told now left : Option (List ℕ)) (held : List ℕ) (refusal : HttpRefusal) → IsStop refusal → told ≡ before held now → (refusal ≡ Cut → Told now (λ bytes. bytes ≡ [])) → P the_limits held × B held → Refuses P B told left refusal
end_refuses P B told now left held Cut stop is end fact = told_end (λ stream. P the_limits stream × B stream) told now held is (end refl) fact
end_refuses P B told now left held Bad stop is end fact = absurd stop
end_refuses P B told now left held TooLong stop is end fact = absurd stop
end_refuses P B told now left held ReadFault stop is end fact = tt
end_refuses P B told now left held NoMemory stop is end fact = tt

pub end_exit : {X : Type 0} (P : Limits → List ℕ → Type 0) (B : List ℕ → Type 0) (told now left : Option (List ℕ)) (held : List ℕ) (r : Result X HttpRefusal) (refusal : HttpRefusal) → IsErrAnd r (λ y. y ≡ refusal) → IsStop refusal → told ≡ before held now → (refusal ≡ Cut → Told now (λ bytes. bytes ≡ [])) → P the_limits held × B held → IfErr r (Refuses P B told left)
end_exit P B told now left held (Ok x) refusal same stop is end fact = tt
end_exit P B told now left held (Err y) refusal same stop is end fact = subst (Refuses P B told left) (sym same) (end_refuses P B told now left held refusal stop is end fact)

-- where the bytes are bad
pub bad_exit : {X : Type 0} (P : Limits → List ℕ → Type 0) (B : List ℕ → Type 0) (told left : Option (List ℕ)) (r : Result X HttpRefusal) (refusal : HttpRefusal) → IsErrAnd r (λ y. y ≡ refusal) → refusal ≡ Bad → Dooms (λ bytes. (limits : Limits) → P limits bytes) told left → IfErr r (Refuses P B told left)
bad_exit P B told left (Ok x) refusal same bad fact = tt
bad_exit P B told left (Err y) refusal same bad fact = subst (Refuses P B told left) (sym bad ∙ sym same) fact

-- what is denied of held bytes, of the stream that they begin
pub denies_held : (P : Limits → List ℕ → Type 0) (B : List ℕ → Type 0) (told left : Option (List ℕ)) (held : List ℕ) → told ≡ before held left → (refusal : HttpRefusal) → (refusal ≡ Cut → Told told (λ stream. P the_limits stream × B stream)) → Denies P held refusal → Refuses P B told left refusal
denies_held P B told left held is Cut cut fact = cut refl
denies_held P B told left held is Bad cut fact = record { read = held; taken = is; doomed = fact }
denies_held P B told left held is TooLong cut fact = record { read = held; taken = is; doomed = fact }
denies_held P B told left held is ReadFault cut fact = tt
denies_held P B told left held is NoMemory cut fact = tt

pub held_refused : {X : Type 0} (P : Limits → List ℕ → Type 0) (B : List ℕ → Type 0) (told left : Option (List ℕ)) (held : List ℕ) (r : Result X HttpRefusal) → told ≡ before held left → ¬ (IsErrOf r Cut) → IfErr r (Denies P held) → IfErr r (Refuses P B told left)
held_refused P B told left held (Ok x) is uncut fact = tt
held_refused P B told left held (Err y) is uncut fact = denies_held P B told left held is y (λ cut. absurd (uncut (ap Err cut))) fact

-- what holds of bytes whatever the limits
pub denies_any : (P : Limits → List ℕ → Type 0) (held : List ℕ) (refusal : HttpRefusal) → OnRefusal refusal ((more : List ℕ) (limits : Limits) → P limits (held ++ more)) → Denies P held refusal
denies_any P held Cut fact = tt
denies_any P held Bad fact = fact
denies_any P held TooLong fact = λ more. fact more the_limits
denies_any P held ReadFault fact = tt
denies_any P held NoMemory fact = tt

pub refusal_weaker : {P Q : Type 0} (refusal : HttpRefusal) → (P → Q) → OnRefusal refusal P → OnRefusal refusal Q
refusal_weaker Cut weaker fact = weaker fact
refusal_weaker Bad weaker fact = weaker fact
refusal_weaker TooLong weaker fact = weaker fact
refusal_weaker ReadFault weaker fact = tt
refusal_weaker NoMemory weaker fact = tt

-- ---- what follows of each refusal

refuses_told : (P : Limits → List ℕ → Type 0) (B : List ℕ → Type 0) (told left : Option (List ℕ)) (refusal : HttpRefusal) → Refuses P B told left refusal → OnRefusal refusal (Told told (P the_limits))
refuses_told P B told left Cut fact = λ stream tells. (fact stream tells).0
refuses_told P B told left Bad fact = λ stream tells. dooms_told (λ bytes. (limits : Limits) → P limits bytes) told left fact stream tells the_limits
refuses_told P B told left TooLong fact = dooms_told (P the_limits) told left fact
refuses_told P B told left ReadFault fact = tt
refuses_told P B told left NoMemory fact = tt

pub refused_told : {X : Type 0} (P : Limits → List ℕ → Type 0) (B : List ℕ → Type 0) (told left : Option (List ℕ)) (r : Result X HttpRefusal) → IfErr r (Refuses P B told left) → OnRefused r (Told told (P the_limits))
refused_told P B told left (Ok x) fact = tt
refused_told P B told left (Err y) fact = refuses_told P B told left y fact

-- where a stream was cut
cut_told : (P : Limits → List ℕ → Type 0) (B : List ℕ → Type 0) (told left : Option (List ℕ)) → Refuses P B told left Cut → Told told B
cut_told P B told left fact stream tells = (fact stream tells).1

pub refused_cut : {X : Type 0} (P : Limits → List ℕ → Type 0) (B : List ℕ → Type 0) (told left : Option (List ℕ)) (r : Result X HttpRefusal) → IfErr r (Refuses P B told left) → IsErrOf r Cut → Told told B
refused_cut P B told left r fact is = cut_told P B told left (subst (λ (s : Result _ HttpRefusal). IfErr s (Refuses P B told left)) is fact)

-- what more bytes make of the rest of a stream, and of the whole
pub may_behind : (B C : List ℕ → Type 0) (front : List ℕ) → ((rest : List ℕ) → B rest → MayBecome C (front ++ rest)) → (rest : List ℕ) → MayBecome B rest → MayBecome C (front ++ rest)
may_behind B C front on rest may =
    let whole = on (rest ++ may.0) may.1 in
    (may.0 ++ whole.0, subst C (ap (λ (l : List ℕ). l ++ whole.0) (sym (append_assoc front rest may.0)) ∙ append_assoc (front ++ rest) may.0 whole.0) whole.1)

pub may_behind_two : (B C : List ℕ → Type 0) (front next : List ℕ) → ((rest : List ℕ) → B rest → MayBecome C (front ++ (next ++ rest))) → (rest : List ℕ) → MayBecome B rest → MayBecome C (front ++ (next ++ rest))
may_behind_two B C front next on rest may =
    subst (MayBecome C) (append_assoc front next rest)
    (may_behind B C (front ++ next) (λ more whole. subst (MayBecome C) (sym (append_assoc front next more)) (on more whole)) rest may)

pub refused_as : {X : Type 0} (P : HttpRefusal → Type 0) (r : Result X HttpRefusal) (refusal : HttpRefusal) → IfErr r P → IsErrOf r refusal → P refusal
refused_as P r refusal fact is = subst (λ (s : Result _ HttpRefusal). IfErr s P) is fact
