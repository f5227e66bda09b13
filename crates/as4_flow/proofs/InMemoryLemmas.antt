-- Lemmas on a source and a sink in memory, whose bytes and pieces are lists with a place up to which they are used up.
use Rattle.std.proofs.Common.{◌≡◌, ℕ, ◌+◌, ◌≤◌, List, [], ◌∷◌, ◌++◌, length, take, drop, min, sym, ◌∙◌, ap, arith}
use Rattle.std.proofs.lemmas.List.{take-append-drop, length-take-le, take_at, drop-drop, drop_min}
use Rattle.as4_flow.specs.Flow.{one_more}
use Rattle.as4_flow.specs.InMemory.{SourceState, SinkState, piece_size, after_read, after_write}
use Rattle.as4_flow.specs.declared.source.Got.TheVariants.{Gave}
use Rattle.as4_flow.specs.declared.sink.Put.TheVariants.{Took}

-- a piece is no larger than what can go
pub piece_size_within : (sizes : List ℕ) (most : ℕ) → piece_size sizes most ≤ most
piece_size_within [] most = omega arith
piece_size_within (size ∷ sizes) most = omega arith

-- what is left is the prefix that is given, and what is left after it
pub left_given : (all piece room : List ℕ) (given n : ℕ) → n ≤ length (drop given all) → piece ≡ take n (drop given all) → drop given all ≡ take n (piece ++ room) ++ drop (given + n) all
left_given all piece room given n within piece_is =
    let long : length piece ≡ n = ap length piece_is ∙ length-take-le n (drop given all) within in
    sym (take-append-drop n (drop given all))
    ∙ ap (λ (front : List ℕ). front ++ drop n (drop given all)) (sym piece_is ∙ sym (take_at piece room n long))
    ∙ ap (λ (rest : List ℕ). take n (piece ++ room) ++ rest) (drop-drop n given all)

-- one more place used up, up to the last
pub drop_used : (sizes : List ℕ) (used next : ℕ) → next ≡ min (used + 1) (length sizes) → drop next sizes ≡ drop 1 (drop used sizes)
drop_used sizes used next is = ap (λ (n : ℕ). drop n sizes) is ∙ drop_min (used + 1) sizes ∙ sym (drop-drop 1 used sizes)

-- a source whose parts are those after a read that gave is that source
pub is_after_gave : (source : SourceState) (n : ℕ) (bytes pieces : List ℕ) (calls : ℕ) → bytes ≡ drop n source.bytes → pieces ≡ drop 1 source.pieces → calls ≡ one_more source.calls → record source { bytes = bytes; pieces = pieces; calls = calls } ≡ after_read (Gave n) source
is_after_gave source n bytes pieces calls bytes_are pieces_are calls_are = λ i. record { bytes = bytes_are i; pieces = pieces_are i; failing = source.failing; calls = calls_are i; faults = source.faults }

-- a sink whose parts are those after a write that took is that sink
pub is_after_took : (sink : SinkState) (n : ℕ) (piece bytes pieces : List ℕ) (room calls : ℕ) → bytes ≡ sink.bytes ++ take n piece → pieces ≡ drop 1 sink.pieces → calls ≡ one_more sink.calls → record sink { bytes = bytes; room = room; pieces = pieces; calls = calls } ≡ after_write (Took n) piece room sink
is_after_took sink n piece bytes pieces room calls bytes_are pieces_are calls_are = λ i. record { bytes = bytes_are i; room = room; pieces = pieces_are i; failing = sink.failing; calls = calls_are i; faults = sink.faults }
