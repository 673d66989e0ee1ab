-- Turns of the walk over the rows under a row, over plain values.
-- Assumes nothing.
use mathlib.Core.Path.{◌≡◌, refl, sym, ap, ◌∙◌}
use mathlib.Core.Bool.{Bool, true, false, cond, ◌&&◌}
use mathlib.Core.List.{List, [], ◌∷◌, ◌++◌, map, append-nil}
use Prim.Native.Nat.{ℕ, suc, ◌+◌, ◌-◌, ◌<◌, ◌≤◌, min}
use native.Mathlib.Omega.{arith}
use lib.Dec.{ltb}
use lib.ListN.{length, length-append}
use borrow.Rule.Slice.PartMut.{mid_of, put_mid}
use borrow.Author.Tests.{ltb-true, ltb-false, lt-ltb, le-ltb}
use Rattle.ground.specs.Ascii.{ascii}
use Rattle.ground.proofs.Laws.{and_true}
use Rattle.row.specs.Rows.{Row}
use Rattle.row.specs.Sets.{rows_from}
use Rattle.row.specs.Memory.{entry_at, text_at, row_at}
use Rattle.row.specs.declared.Entry.{Entry}
use Rattle.resolve.specs.Rules.{under}
use Rattle.resolve.proofs.MemoryLaws.{rows_next, rows_end}
use Rattle.canonical.specs.Pieces.{opening, closing}
use Rattle.canonical.specs.Canonical.{starts_at, parts_of, listed, text_of}
use Rattle.canonical.specs.Walk.{piece_text, parts_text, is_under, is_part}
use Rattle.canonical.specs.Wrote.{Wrote}
use Rattle.canonical.proofs.TextLaws.{text_cut}
use Rattle.canonical.proofs.WriteLaws.{wrote_then, wrote_lent, Sofar, sofar_more, sofar_same, sofar_fits}

-- ---- texts with commas between: what is left of them, with one in front unless it is the first

behind : List (List ℕ) → List ℕ
behind [] = []
behind (p ∷ ps) = ascii "," ++ (p ++ behind ps)

-- the comma in front of a part
abbrev pub comma : Bool → List ℕ
comma first = cond first [] (ascii ",")

rest : Bool → List (List ℕ) → List ℕ
rest first ps = cond first (listed ps) (behind ps)

listed_behind : (p : List ℕ) (ps : List (List ℕ)) → listed (p ∷ ps) ≡ p ++ behind ps
unfolding listed behind
listed_behind p [] = sym (append-nil p)
listed_behind p (q ∷ ps) = ap (λ (l : List ℕ). p ++ (ascii "," ++ l)) (listed_behind q ps)

rest_none : (first : Bool) → rest first [] ≡ []
unfolding rest listed behind
rest_none true = refl
rest_none false = refl

rest_cons : (first : Bool) (p : List ℕ) (ps : List (List ℕ)) → rest first (p ∷ ps) ≡ (comma first ++ p) ++ rest false ps
unfolding rest behind
rest_cons true p ps = listed_behind p ps
rest_cons false p ps = refl

-- ---- the rows from j on and before `end`, as far as they are deeper than d

below : List ℕ → ℕ → ℕ → ℕ → List Row
below m end d j = under d (rows_from m (end - j) j)

module _ (m : List ℕ) (end d j : ℕ) where
  below_next : j < end → d < (row_at m j).depth → below m end d j ≡ row_at m j ∷ below m end d (j + 1)
  unfolding below under
  below_next l h = rw (rows_next m j end l, lt-ltb d (row_at m j).depth h)

  below_stop : j < end → (row_at m j).depth ≤ d → below m end d j ≡ []
  unfolding below under
  below_stop l h = rw (rows_next m j end l, le-ltb d (row_at m j).depth h)

  below_end : end ≤ j → below m end d j ≡ []
  unfolding below under
  below_end l = rw (rows_end m j end l)

-- ---- the parts that are left from row i on

pub over : List ℕ → ℕ → ℕ → ℕ → Bool → ℕ → List ℕ
over m left end d first i = rest first (map (text_of left) (starts_at (d + 1) (below m end d i)))

pub over_start : (m : List ℕ) (left start end d : ℕ) → parts_text m left start end d ≡ over m left end d true start
unfolding over rest parts_text parts_of below
over_start m left start end d = refl

module _ (m : List ℕ) (left end d : ℕ) (first : Bool) (i : ℕ) where
  pub over_end : is_under m end d i ≡ false → over m left end d first i ≡ []
  unfolding over is_under starts_at
  over_end e = rw (none (ltb i end) refl e) (rest_none first)
    where
      none : (x : Bool) → ltb i end ≡ x → (x && ltb d (entry_at m i).depth) ≡ false → below m end d i ≡ []
      none true p q = below_stop m end d i (ltb-true i end p) (ltb-false d (entry_at m i).depth q)
      none false p q = below_end m end d i (ltb-false i end p)

  module _ (u : is_under m end d i ≡ true) where
    pub under_before : i < end
    unfolding is_under
    under_before = ltb-true i end (and_true (ltb i end) _ u).0

    deeper : d < (entry_at m i).depth
    unfolding is_under
    deeper = ltb-true d (entry_at m i).depth (and_true (ltb i end) _ u).1

    pub over_skip : is_part m d i ≡ false → over m left end d first i ≡ over m left end d first (i + 1)
    unfolding over is_part starts_at
    over_skip e = rw (below_next m end d i under_before deeper, e)

    piece_is : text_of left (row_at m i ∷ below m end d (i + 1)) ≡ piece_text m left i end
    unfolding below piece_text
    piece_is = rw (rows_next m i end under_before) (text_cut left d (row_at m i) (rows_from m (end - (i + 1)) (i + 1)) (omega (arith, deeper)))

    pub over_part : is_part m d i ≡ true → over m left end d first i ≡ (comma first ++ piece_text m left i end) ++ over m left end d false (i + 1)
    unfolding over is_part starts_at
    over_part e =
        rw (below_next m end d i under_before deeper, e)
        (rest_cons first _ _ ∙ ap (λ (l : List ℕ). (comma first ++ l) ++ rest false (map (text_of left) (starts_at (d + 1) (below m end d (i + 1))))) piece_is)

-- ---- a turn: what is written so far, and the parts that are left

module _ {x p whole : List ℕ} {at : ℕ} (m : List ℕ) (left end d : ℕ) (first : Bool) (i : ℕ) (s : Sofar x p at whole (over m left end d first i)) (u : is_under m end d i ≡ true) where
  pub turn_skip : is_part m d i ≡ false → (p' : List ℕ) (at' : ℕ) (first' : Bool) → p' ≡ p → at' ≡ at → first' ≡ first → Sofar x p' at' whole (over m left end d first' (i + 1))
  turn_skip e p' at' first' a b c = rw (a, b, c) (sofar_same s (over_skip m left end d first i u e))

  module _ (e : is_part m d i ≡ true) where
    piece_fits : (to n : ℕ) → length whole ≤ n → to ≡ at + length (comma first) → to + length (piece_text m left i end) ≤ n
    piece_fits to n h g =
        let a = ap length (over_part m left end d first i u e) in
        omega (arith, sofar_fits n s h, a, length-append (comma first ++ piece_text m left i end) (over m left end d false (i + 1)), length-append (comma first) (piece_text m left i end))

    module _ {p₁ : List ℕ} {to : ℕ} (w : Wrote p at p₁ to (comma first)) where
      pub turn_fits : (n : ℕ) → length whole ≤ n → to + length (piece_text m left i end) ≤ n
      turn_fits n h = piece_fits to n h w.end

      pub turn_part : (from n : ℕ) (ys : List ℕ) → from ≡ min to (length p₁) → Wrote (mid_of from (length p₁ - from) p₁) 0 ys n (piece_text m left i end)
          → (p' : List ℕ) (at' : ℕ) (first' : Bool) → p' ≡ put_mid from (length p₁ - from) p₁ ys → at' ≡ to + n → first' ≡ false → Sofar x p' at' whole (over m left end d first' (i + 1))
      turn_part from n ys f v p' at' first' a b c =
          rw (a, b, c) (sofar_more s (over_part m left end d first i u e) (wrote_then w (wrote_lent p₁ ys to from n (piece_text m left i end) f v)))

-- ---- the text of one row

pub text_none : (m : List ℕ) (left i end : ℕ) → left ≡ 0 → [] ≡ piece_text m left i end
unfolding piece_text text_of
text_none m left i end e = rw e

module _ (m : List ℕ) (left i end : ℕ) (h : left ≡ 0 → ⊥) (l : i < end) (e : Entry) (p : e ≡ entry_at m i) where
  pub text_some : opening e.kind (text_at m i) e.size ++ (parts_text m (left - 1) (i + 1) end e.depth ++ closing e.kind) ≡ piece_text m left i end
  unfolding piece_text parts_text text_of
  text_some =
      let k : left ≡ suc (left - 1) = omega arith in
      sym (rw (rows_next m i end l, p) (ap (λ (n : ℕ). text_of n (row_at m i ∷ rows_from m (end - (i + 1)) (i + 1))) k))

  -- its pieces are no longer than it
  pub pieces_fit : (s : List ℕ) → s ≡ text_at m i → (n : ℕ) → length (piece_text m left i end) ≤ n → length (opening e.kind s e.size) + length (parts_text m (left - 1) (i + 1) end e.depth) + length (closing e.kind) ≤ n
  pieces_fit s q n h =
      let a : List ℕ = opening e.kind (text_at m i) e.size in
      let b : List ℕ = parts_text m (left - 1) (i + 1) end e.depth in
      let c : List ℕ = closing e.kind in
      let z : length (opening e.kind s e.size) ≡ length a = ap (λ (x : List ℕ). length (opening e.kind x e.size)) q in
      omega (arith, ap length text_some, length-append a (b ++ c), length-append b c)

-- ---- the two tests of a row

module _ (m : List ℕ) (end d i : ℕ) where
  pub under_past : end ≤ i → is_under m end d i ≡ false
  unfolding is_under
  under_past h = rw (le-ltb i end h)

  module _ (l : i < end) (y : ℕ) (e : y ≡ (entry_at m i).depth) where
    pub under_here : d < y → is_under m end d i ≡ true
    unfolding is_under
    under_here h = rw (← e, lt-ltb i end l, lt-ltb d y h)

    pub under_stop : y ≤ d → is_under m end d i ≡ false
    unfolding is_under
    under_stop h = rw (← e, lt-ltb i end l, le-ltb d y h)
