-- Lemmas on bytes in a buffer, and pieces that are read behind them.
use Rattle.std.proofs.Common.{◌≡◌, ℕ, ◌+◌, ◌≤◌, List, ◌++◌, length, take, drop, Option, sym, ◌∙◌, ap}
use Rattle.std.proofs.lemmas.List.{take-append-le, length-take-le}
use Rattle.std.proofs.Math.Seq.{take-append-add}
use borrow.Rule.Slice.PartMut.{put_mid}
use Rattle.as4_flow.specs.Flow.{before}
use Rattle.as4_flow.specs.Got.{IfGave}
use Rattle.as4_flow.specs.declared.source.Got.{Got}
use Rattle.as4_flow.specs.declared.source.Got.TheVariants.{Gave, End, Failed}
use Rattle.as4_http.specs.Came.{Came}

-- the front of a room, after a part behind it was written
front_put : (room piece : List ℕ) (len size n : ℕ) → len ≤ length room → n ≤ length piece → take (len + n) (put_mid len size room piece) ≡ take len room ++ take n piece
front_put room piece len size n within some =
    let front : length (take len room) ≡ len = length-take-le len room within in
    ap (λ (k : ℕ). take (k + n) (put_mid len size room piece)) (sym front)
    ∙ take-append-add (take len room) (piece ++ drop size (drop len room)) n
    ∙ ap (λ (l : List ℕ). take len room ++ l) (take-append-le n piece (drop size (drop len room)) some)

pub read_came : (got : Got) (room piece : List ℕ) (len size : ℕ) (left rest : Option (List ℕ))
    → len ≤ length room → IfGave got (λ n. (1 ≤ n) × (n ≤ length piece)) → IfGave got (λ n. left ≡ before (take n piece) rest)
    → IfGave got (λ n. Came n (take len room) (take (len + n) (put_mid len size room piece)) left rest)
read_came (Gave n) room piece len size left rest within some bytes = record {
  piece = take n piece;
  count = length-take-le n piece some.1;
  held = front_put room piece len size n within some.1;
  taken = bytes;
}
read_came End room piece len size left rest within some bytes = tt
read_came Failed room piece len size left rest within some bytes = tt
