-- Frames in an array are a list; and what comes of them, one after the other.
-- Assumes nothing.
use Rattle.std.specs.Prelude.{Ok, Err}
use mathlib.Core.Path.{◌≡◌, refl, sym, ap, ◌∙◌}
use mathlib.Core.Bool.{Bool, true, false, ◌||◌}
use mathlib.Core.List.{List, ◌∷◌}
use Prim.Native.Nat.{ℕ, zero, suc, ◌+◌, ◌-◌, ◌*◌, ◌%◌, ◌<◌, ◌≤◌}
use native.Mathlib.Numerals.{sub-one}
use native.Mathlib.Omega.{arith}
use lib.Dec.{eqb}
use lib.ListN.{length, get_or, set, length-set}
use lib.Seq.{get_or-set_same, get_or-set_other}
use borrow.Author.Tests.{eq-eqb, ne_eqb, lt-ltb, le-ltb}
use Rattle.answer.specs.declared.refusal.Why.{Why}
use Rattle.answer.specs.declared.refusal.Why.TheVariants.{BlockSizeWrong}
use Rattle.binary.specs.Numbers.{long_at}
use Rattle.row.specs.Rows.{Row}
use Rattle.row.specs.Layout.{row_limit}
use Rattle.walk.specs.Parts.{is_map}
use Rattle.walk.specs.Walk.{Stand, Outcome, went, stopped, Item, blocks, pick, and_then, times, moved_to, is_size, counted, key, in_turn, entry, plain_block, ended, sized_block, steps}
use Rattle.walk.specs.Steps.{Read, type_at, parts_behind, reading, Reads, Frame, parts, entries, is_right, block_end, block_rest, run, frame_of, frames_of, pushed, going, outcome, after}

-- ---- one after the other

pub then_then : (o : Outcome) (g h : Stand → Outcome) → and_then (and_then o g) h ≡ and_then o (λ k. and_then (g k) h)
unfolding and_then
then_then (went k) g h = refl
then_then (stopped w p) g h = refl

pub pick_true : (t : Bool) (a b : Outcome) → t ≡ true → pick t a b ≡ a
unfolding pick
pick_true t a b e = rw e

pub pick_false : (t : Bool) (a b : Outcome) → t ≡ false → pick t a b ≡ b
unfolding pick
pick_false t a b e = rw e

-- n entries: none, or one and the others
times_none : (g : Stand → Outcome) (n : ℕ) (h : Stand) → n ≡ 0 → times g n h ≡ went h
unfolding times
times_none g zero h e = refl
times_none g (suc n) h e = absurd (omega arith)

times_more : (g : Stand → Outcome) (n : ℕ) (h : Stand) → 0 < n → times g n h ≡ and_then (g h) (λ k. times g (n - 1) k)
unfolding times
times_more g zero h l = absurd (omega arith)
times_more g (suc n) h l = rw sub-one

-- ---- frames in an array: what stands from 3 * d on does not matter

keep : (m : List ℕ) (n : ℕ) (frames : List ℕ) (i v d : ℕ) → 3 * d ≤ i → frames_of m n (set frames i v) d ≡ frames_of m n frames d
unfolding frames_of
keep m n frames i v zero l = refl
keep m n frames i v (suc d) l =
    rw (
      get_or-set_other frames i (3 * d) v 0 (λ (z : 3 * d ≡ i). omega arith),
      get_or-set_other frames i (3 * d + 1) v 0 (λ (z : 3 * d + 1 ≡ i). omega arith),
      get_or-set_other frames i (3 * d + 2) v 0 (λ (z : 3 * d + 2 ≡ i). omega arith),
      keep m n frames i v d (omega arith),
    )

pub length_pushed : (frames : List ℕ) (d row left size : ℕ) → length (pushed frames d row left size) ≡ length frames
unfolding pushed
length_pushed frames d row left size =
    length-set (set (set frames (3 * d) row) (3 * d + 1) left) (3 * d + 2) size
    ∙ length-set (set frames (3 * d) row) (3 * d + 1) left
    ∙ length-set frames (3 * d) row

frames_next : (m : List ℕ) (n : ℕ) (frames : List ℕ) (d e : ℕ) → e ≡ d + 1
    → frames_of m n frames e ≡ frame_of m n (get_or frames (3 * d) 0) (get_or frames (3 * d + 1) 0) (get_or frames (3 * d + 2) 0) ∷ frames_of m n frames d
unfolding frames_of
frames_next m n frames d zero e = absurd (omega arith)
frames_next m n frames d (suc k) e = let f : k ≡ d = omega arith in rw f

-- a frame by its three numbers
frame_eq : (m : List ℕ) (n : ℕ) {a b c x y z : ℕ} {fs gs : List Frame} → a ≡ x → b ≡ y → c ≡ z → fs ≡ gs → frame_of m n a b c ∷ fs ≡ frame_of m n x y z ∷ gs
frame_eq m n p q r s = cc

frames_pushed : (m : List ℕ) (n : ℕ) (frames : List ℕ) (d row left size : ℕ) → 3 * d + 3 ≤ length frames
    → frames_of m n (pushed frames d row left size) (d + 1) ≡ frame_of m n row left size ∷ frames_of m n frames d
unfolding pushed
frames_pushed m n frames d row left size l =
    let one = set frames (3 * d) row in
    let two = set one (3 * d + 1) left in
    let e1 : length one ≡ length frames = length-set frames (3 * d) row in
    let e2 : length two ≡ length frames = length-set one (3 * d + 1) left ∙ e1 in
    frames_next m n (set two (3 * d + 2) size) d (d + 1) refl
    ∙ frame_eq m n
    (get_or-set_other two (3 * d + 2) (3 * d) size 0 (λ (z : 3 * d ≡ 3 * d + 2). omega arith)
    ∙ get_or-set_other one (3 * d + 1) (3 * d) left 0 (λ (z : 3 * d ≡ 3 * d + 1). omega arith)
    ∙ get_or-set_same frames (3 * d) row 0 (omega arith))
    (get_or-set_other two (3 * d + 2) (3 * d + 1) size 0 (λ (z : 3 * d + 1 ≡ 3 * d + 2). omega arith) ∙ get_or-set_same one (3 * d + 1) left 0 (omega arith))
    (get_or-set_same two (3 * d + 2) size 0 (omega arith))
    (keep m n two (3 * d + 2) size d (omega arith) ∙ keep m n one (3 * d + 1) left d (omega arith) ∙ keep m n frames (3 * d) row d (omega arith))

-- the last frame gets another first or second number
frames_first : (m : List ℕ) (n : ℕ) (frames : List ℕ) (v d : ℕ) → 0 < d → 3 * d ≤ length frames
    → frames_of m n (set frames (3 * (d - 1)) v) d
    ≡ frame_of m n v (get_or frames (3 * (d - 1) + 1) 0) (get_or frames (3 * (d - 1) + 2) 0) ∷ frames_of m n frames (d - 1)
frames_first m n frames v d z l =
    let t = d - 1 in
    frames_next m n (set frames (3 * t) v) t d (omega arith)
    ∙ frame_eq m n
    (get_or-set_same frames (3 * t) v 0 (omega arith))
    (get_or-set_other frames (3 * t) (3 * t + 1) v 0 (λ (z : 3 * t + 1 ≡ 3 * t). omega arith))
    (get_or-set_other frames (3 * t) (3 * t + 2) v 0 (λ (z : 3 * t + 2 ≡ 3 * t). omega arith))
    (keep m n frames (3 * t) v t (omega arith))

frames_second : (m : List ℕ) (n : ℕ) (frames : List ℕ) (v d : ℕ) → 0 < d → 3 * d ≤ length frames
    → frames_of m n (set frames (3 * (d - 1) + 1) v) d
    ≡ frame_of m n (get_or frames (3 * (d - 1)) 0) v (get_or frames (3 * (d - 1) + 2) 0) ∷ frames_of m n frames (d - 1)
frames_second m n frames v d z l =
    let t = d - 1 in
    frames_next m n (set frames (3 * t + 1) v) t d (omega arith)
    ∙ frame_eq m n
    (get_or-set_other frames (3 * t + 1) (3 * t) v 0 (λ (z : 3 * t ≡ 3 * t + 1). omega arith))
    (get_or-set_same frames (3 * t + 1) v 0 (omega arith))
    (get_or-set_other frames (3 * t + 1) (3 * t + 2) v 0 (λ (z : 3 * t + 2 ≡ 3 * t + 1). omega arith))
    (keep m n frames (3 * t + 1) v t (omega arith))

frame_entries : (m : List ℕ) (n row left size : ℕ) → row < row_limit → frame_of m n row left size ≡ entries (type_at m n row) left size
unfolding frame_of
frame_entries m n row left size l = rw (lt-ltb row row_limit l)

frame_parts : (m : List ℕ) (n row left size : ℕ) → row_limit ≤ row → frame_of m n row left size ≡ parts (parts_behind m n (row % row_limit))
unfolding frame_of
frame_parts m n row left size l = rw (le-ltb row row_limit l)

-- ---- what comes of frames

module _ (m : List ℕ) (n : ℕ) (bytes : List ℕ) where
  module _ (frames : List ℕ) (d : ℕ) where
    pub after_went : (h : Stand) → after m n bytes frames d (went h) ≡ outcome m n bytes frames d h
    unfolding after and_then
    after_went h = refl

    pub after_stopped : (w : Why) (p : ℕ) → after m n bytes frames d (stopped w p) ≡ stopped w p
    unfolding after and_then
    after_stopped w p = refl

    pub after_then : (o : Outcome) (g : Stand → Outcome) → after m n bytes frames d (and_then o g) ≡ and_then o (λ k. after m n bytes frames d (g k))
    unfolding after
    after_then o g = then_then o g _

    pub outcome_end : (h : Stand) → d ≡ 0 → outcome m n bytes frames d h ≡ went h
    unfolding outcome frames_of run
    outcome_end h e = rw e

    -- entries that were pushed
    pub outcome_entries : (row left size : ℕ) (h : Stand) → row < row_limit → 3 * d + 3 ≤ length frames
        → outcome m n bytes (pushed frames d row left size) (d + 1) h
        ≡ after m n bytes frames d (block_rest bytes (going m n bytes) (type_at m n row) left size h)
    unfolding outcome after run
    outcome_entries row left size h r l =
        ap (λ (fs : List Frame). run bytes (going m n bytes) fs h)
        (frames_pushed m n frames d row left size l ∙ ap (λ (f : Frame). f ∷ frames_of m n frames d) (frame_entries m n row left size r))

    -- parts that were pushed: those behind the part at a row
    pub outcome_parts : (row left size part : ℕ) (h : Stand) → row ≡ row_limit + part → part < row_limit → 3 * d + 3 ≤ length frames
        → outcome m n bytes (pushed frames d row left size) (d + 1) h
        ≡ after m n bytes frames d (in_turn (going m n bytes) (parts_behind m n part) h)
    unfolding outcome after run
    outcome_parts row left size part h e p l =
        let f : row % row_limit ≡ part = omega arith in
        ap (λ (fs : List Frame). run bytes (going m n bytes) fs h)
        (frames_pushed m n frames d row left size l ∙ ap (λ (f : Frame). f ∷ frames_of m n frames d) (frame_parts m n row left size (omega arith)))
        ∙ ap (λ (i : ℕ). after m n bytes frames d (in_turn (going m n bytes) (parts_behind m n i) h)) f

    module _ (z : 0 < d) where
      -- the last frame
      pub outcome_top_entries : (h : Stand) → get_or frames (3 * (d - 1)) 0 < row_limit
          → outcome m n bytes frames d h
          ≡ after m n bytes frames (d - 1)
          (block_rest bytes (going m n bytes) (type_at m n (get_or frames (3 * (d - 1)) 0)) (get_or frames (3 * (d - 1) + 1) 0) (get_or frames (3 * (d - 1) + 2) 0) h)
      unfolding outcome after run
      outcome_top_entries h r =
          ap (λ (fs : List Frame). run bytes (going m n bytes) fs h)
          (frames_next m n frames (d - 1) d (omega arith) ∙ ap (λ (f : Frame). f ∷ frames_of m n frames (d - 1)) (frame_entries m n _ _ _ r))

      pub outcome_top_parts : (h : Stand) → row_limit ≤ get_or frames (3 * (d - 1)) 0
          → outcome m n bytes frames d h
          ≡ after m n bytes frames (d - 1) (in_turn (going m n bytes) (parts_behind m n (get_or frames (3 * (d - 1)) 0 % row_limit)) h)
      unfolding outcome after run
      outcome_top_parts h r =
          ap (λ (fs : List Frame). run bytes (going m n bytes) fs h)
          (frames_next m n frames (d - 1) d (omega arith) ∙ ap (λ (f : Frame). f ∷ frames_of m n frames (d - 1)) (frame_parts m n _ _ _ r))

      module _ (l : 3 * d ≤ length frames) where
        -- the last frame has another part
        pub outcome_first : (part : ℕ) (h : Stand) → part < row_limit
            → outcome m n bytes (set frames (3 * (d - 1)) (row_limit + part)) d h
            ≡ after m n bytes frames (d - 1) (in_turn (going m n bytes) (parts_behind m n part) h)
        unfolding outcome after run
        outcome_first part h p =
            let f : (row_limit + part) % row_limit ≡ part = omega arith in
            ap (λ (fs : List Frame). run bytes (going m n bytes) fs h)
            (frames_first m n frames (row_limit + part) d z l ∙ ap (λ (f : Frame). f ∷ frames_of m n frames (d - 1)) (frame_parts m n _ _ _ (omega arith)))
            ∙ ap (λ (i : ℕ). after m n bytes frames (d - 1) (in_turn (going m n bytes) (parts_behind m n i) h)) f

        -- or another number of entries
        pub outcome_second : (v : ℕ) (h : Stand) → get_or frames (3 * (d - 1)) 0 < row_limit
            → outcome m n bytes (set frames (3 * (d - 1) + 1) v) d h
            ≡ after m n bytes frames (d - 1)
            (block_rest bytes (going m n bytes) (type_at m n (get_or frames (3 * (d - 1)) 0)) v (get_or frames (3 * (d - 1) + 2) 0) h)
        unfolding outcome after run
        outcome_second v h r =
            ap (λ (fs : List Frame). run bytes (going m n bytes) fs h)
            (frames_second m n frames v d z l ∙ ap (λ (f : Frame). f ∷ frames_of m n frames (d - 1)) (frame_entries m n _ _ _ r))

-- ---- what is left of a block

module _ (bytes : List ℕ) (go : Item → Stand → Outcome) (type : List Row) where
  pub rest_plain : (left size : ℕ) (h : Stand) → size ≡ 0 → block_rest bytes go type left size h ≡ plain_block bytes go type left h
  unfolding block_rest plain_block block_end is_right and_then
  rest_plain left size h e =
      ap (λ (g : Stand → Outcome). and_then (times (λ k. entry bytes go type k) left h) g)
      (λ i k. ap (λ (o : Outcome). and_then o (λ j. go (blocks type) j)) (pick_true (eqb size 0 || is_size (long_at bytes size) k.at) (went k) (stopped BlockSizeWrong size) (rw (eq-eqb size 0 e))) i)

  pub rest_sized : (left size : ℕ) (h : Stand) → (size ≡ 0 → ⊥) → block_rest bytes go type left size h ≡ sized_block bytes go type left size h
  unfolding block_rest sized_block block_end is_right ended
  rest_sized left size h e = rw (ne_eqb size 0 e)

  pub rest_end : (left size : ℕ) (h : Stand) → left ≡ 0 → block_rest bytes go type left size h ≡ and_then (block_end bytes go size h) (λ j. go (blocks type) j)
  unfolding block_rest and_then
  rest_end left size h e = ap (λ (o : Outcome). and_then o (λ k. and_then (block_end bytes go size k) (λ j. go (blocks type) j))) (times_none _ left h e)

  pub rest_more : (left size : ℕ) (h : Stand) → 0 < left
      → block_rest bytes go type left size h ≡ and_then (entry bytes go type h) (λ k. block_rest bytes go type (left - 1) size k)
  unfolding block_rest
  rest_more left size h l =
      ap (λ (o : Outcome). and_then o (λ k. and_then (block_end bytes go size k) (λ j. go (blocks type) j))) (times_more _ left h l)
      ∙ then_then (entry bytes go type h) _ _

-- ---- a frame has room for its second and third number

module _ (frames : List ℕ) (d row : ℕ) (l : d < steps) (e : length frames ≡ 3 * steps) where
  pub second_room : 3 * d + 1 < length (set frames (3 * d) row)
  second_room = let f : length (set frames (3 * d) row) ≡ length frames = length-set frames (3 * d) row in omega arith

  pub third_room : (left : ℕ) → 3 * d + 2 < length (set (set frames (3 * d) row) (3 * d + 1) left)
  third_room left =
      let f : length (set frames (3 * d) row) ≡ length frames = length-set frames (3 * d) row in
      let g : length (set (set frames (3 * d) row) (3 * d + 1) left) ≡ length (set frames (3 * d) row) = length-set (set frames (3 * d) row) (3 * d + 1) left in
      omega arith

-- ---- the size of a block

module _ (bytes : List ℕ) (size to : ℕ) where
  pub right_none : size ≡ 0 → true ≡ is_right bytes size to
  unfolding is_right
  right_none e = rw (eq-eqb size 0 e)

  pub right_size : (size ≡ 0 → ⊥) → is_size (long_at bytes size) to ≡ is_right bytes size to
  unfolding is_right
  right_size e = rw (ne_eqb size 0 e)

-- ---- the key of a map's pair

place_of : Read → ℕ
place_of (Ok p) = p
place_of (Err f) = 0

module _ (bytes : List ℕ) (type : List Row) (at : ℕ) where
  pub key_map : is_map type ≡ true → {r : Read} → Reads bytes at r (counted bytes) → Reads bytes at r (key bytes type)
  unfolding key
  key_map e p =
      record { says = λ h f. p.says h f ∙ sym (pick_true (is_map type) _ _ e); within = p.within }

  pub key_none : at ≤ length bytes → is_map type ≡ false → Reads bytes at (Ok at) (key bytes type)
  unfolding key reading moved_to place_of
  key_none l e =
      record {
        says = λ h f. ap (λ (x : ℕ). went (moved_to x h)) (sym f) ∙ sym (pick_false (is_map type) _ _ e);
        within = λ p f. let g : at ≡ p = ap place_of f in omega arith;
      }
