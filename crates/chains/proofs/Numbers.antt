-- The numbers of strings, as the library's methods make them; and marks of them.
-- Assumes nothing.
use mathlib.Core.Path.{◌≡◌, refl}
use mathlib.Core.List.{List, [], ◌∷◌}
use Prim.Native.Nat.{ℕ, ◌+◌, ◌-◌, ◌*◌, ◌%◌, ◌<◌, ◌≤◌}
use native.Mathlib.Omega.{arith}
use lib.ListN.{length, take, drop, get_or}
use borrow.Author.Tests.{lt-ltb, le-ltb}
use mir.Syntax.{w64}
use Rattle.std.specs.List.{fold}
use Rattle.std.specs.Int.{from_le_bytes}
use Rattle.std.specs.Array.{IsFirstChunk, IsWholeChunk}
use Rattle.std.proofs.lemmas.List.{get_or-take, get_or-drop}
use Rattle.chains.specs.Marks.{eight_at, short_from, spread, mark_of}

pub short_fold : (h : ℕ) (s : List ℕ) → fold (λ h b. h % 72057594037927936 * 256 + b) h s ≡ short_from h s
unfolding short_from
short_fold h [] = refl
short_fold h (b ∷ s) = short_fold (h % 72057594037927936 * 256 + b) s

-- eight bytes that stand in a string from a place on
eight_bytes : (s bs : List ℕ) (at : ℕ) → ((k j : ℕ) → k < 8 → j ≡ at + k → get_or bs k 0 ≡ get_or s j 0) → from_le_bytes w64 bs ≡ eight_at s at
unfolding eight_at
eight_bytes s bs at e =
    let e0 = e 0 at (omega arith) (omega arith) in
    let e1 = e 1 (at + 1) (omega arith) (omega arith) in
    let e2 = e 2 (at + 2) (omega arith) (omega arith) in
    let e3 = e 3 (at + 2 + 1) (omega arith) (omega arith) in
    let e4 = e 4 (at + 4) (omega arith) (omega arith) in
    let e5 = e 5 (at + 4 + 1) (omega arith) (omega arith) in
    let e6 = e 6 (at + 6) (omega arith) (omega arith) in
    let e7 = e 7 (at + 6 + 1) (omega arith) (omega arith) in
    omega arith

pub first_eight : (s bs : List ℕ) → IsFirstChunk s bs 8 → from_le_bytes w64 bs ≡ eight_at s 0
first_eight s bs f = eight_bytes s bs 0 (λ k j l e. let h : get_or (take 8 s) k 0 ≡ get_or s k 0 = get_or-take 8 s k 0 l in let z : j ≡ k = omega arith in rw (f.same, h, z))

pub last_eight : (s bs : List ℕ) → IsWholeChunk (drop (length s - 8) s) bs 8 → from_le_bytes w64 bs ≡ eight_at s (length s - 8)
last_eight s bs f = eight_bytes s bs (length s - 8) (λ k j l e. rw (f.same, get_or-drop (length s - 8) s k 0, e))

pub mark_short : (s : List ℕ) (h : ℕ) → length s < 8 → h ≡ spread (short_from 0 s) → length s % 2048 + h ≡ mark_of s
unfolding mark_of
mark_short s h l e = rw (lt-ltb (length s) 8 l, e) refl

pub mark_long : (s : List ℕ) (a b : ℕ) → 8 ≤ length s → a ≡ spread (eight_at s 0) → b ≡ spread (eight_at s (length s - 8)) → length s % 2048 + a + b ≡ mark_of s
unfolding mark_of
mark_long s a b l e f = rw (le-ltb (length s) 8 l, e, f) (omega arith)
