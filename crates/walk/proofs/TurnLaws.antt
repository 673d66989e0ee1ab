-- One law for each way out of the functions that take turns: what comes of it all stays.
-- Assumes nothing.
use Rattle.std.specs.Prelude.{Option, Some, None, Result, Ok, Err}
use mathlib.Core.Path.{◌≡◌, refl, sym, ap, subst, ◌∙◌}
use mathlib.Core.Bool.{true, false}
use mathlib.Core.List.{List, [], ◌∷◌}
use Prim.Native.Nat.{ℕ, ◌+◌, ◌-◌, ◌*◌, ◌%◌, ◌<◌, ◌≤◌}
use native.Mathlib.Omega.{arith}
use lib.Dec.{eqb}
use lib.ListN.{length, get_or, set, length-set}
use borrow.Author.Tests.{eq-eqb, ne_eqb, lt-ltb, le-ltb}
use Rattle.answer.specs.declared.refusal.Why.{Why}
use Rattle.answer.specs.declared.refusal.Why.TheVariants.{TooManySteps, BlockSizeWrong}
use Rattle.answer.specs.declared.refusal.Fault.{Fault}
use Rattle.binary.specs.Numbers.{Number, long_at, is_negative, absolute}
use Rattle.binary.proofs.Laws.{long_inside, long_forward}
use Rattle.row.specs.Rows.{Row}
use Rattle.row.specs.Layout.{row_limit}
use Rattle.row.specs.Sets.{rows_from}
use Rattle.row.specs.Memory.{entry_at}
use Rattle.walk.specs.Parts.{inside}
use Rattle.walk.specs.Walk.{Stand, Outcome, went, stopped, datum, blocks, pick, and_then, moved_to, spent, on_number, key, in_turn, entry, block, header, one_item, steps}
use Rattle.walk.specs.Steps.{Read, Turn, numbered, type_at, parts_from, parts_behind, FirstPart, reading, Reads, is_right, block_end, block_rest, pushed, rowless, from_row, here_of, standing, going, outcome, after, pending, Bounded, Listed, to_do, Turned, on, stop, on_blocks, on_block, before}
use Rattle.walk.specs.declared.states.Here.{Here}
use Rattle.walk.proofs.Fuel.{visit_none, visit_step}
use Rattle.walk.proofs.LeafLaws.{fault_of, numbered_ok, numbered_err}
use Rattle.walk.proofs.FrameLaws.{pick_true, pick_false, length_pushed, after_went, after_stopped, after_then, outcome_entries, outcome_top_entries, outcome_top_parts, outcome_first, outcome_second, rest_plain, rest_sized, rest_end, rest_more}

-- ---- a number that was read

module _ (bytes : List ℕ) (next : ℕ → Stand → Outcome) (h : Stand) {n : Number} where
  pub number_is : {v to : ℕ} → n ≡ Ok (v, to) → on_number bytes n next h ≡ next v (moved_to to h)
  unfolding on_number
  number_is e = rw e

-- the long at an offset, by what was read
module _ (bytes : List ℕ) (at : ℕ) {x : Number} (e : x ≡ long_at bytes at) {y : Result (ℕ × ℕ) Fault} (d : y ≡ numbered (length bytes) at x) where
  pub long_numbered : {f : Fault} → y ≡ Err f → numbered (length bytes) at (long_at bytes at) ≡ Err f
  long_numbered g = ap (λ (z : Number). numbered (length bytes) at z) (sym e) ∙ sym d ∙ g

  pub long_read : {v to : ℕ} → y ≡ Ok (v, to) → long_at bytes at ≡ Ok (v, to)
  long_read g = sym e ∙ numbered_ok (length bytes) at x (sym d ∙ g)

-- what comes next keeps its bounds
pub number_bounded : (bytes frames : List ℕ) (here : Here) → Bounded bytes frames here → {v to : ℕ} → long_at bytes here.at ≡ Ok (v, to)
    → Bounded bytes frames (here_of to (here.left - 1) here.given here.depth None)
number_bounded bytes frames here b {v} {to} q =
    record { at_bound = long_inside bytes here.at v to q; frames_size = b.frames_size; frames_room = omega arith }

pub number_listed : (list : List ℕ) (here : Here) (to : ℕ) → Listed list here → Listed list (here_of to (here.left - 1) here.given here.depth None)
number_listed list here to l = record { list_size = l.list_size; list_room = omega arith }

pub moved_room : (here : Here) {there : Here} {at : ℕ} {row : Option ℕ} → there ≡ here_of at here.left here.given here.depth row → here.depth + here.left < steps
    → there.depth < steps
moved_room here {there} {at} {row} e l = let f : there.depth ≡ here.depth = ap (λ (h : Here). h.depth) e in omega arith

pub number_behind : (bytes : List ℕ) (at : ℕ) {v to : ℕ} → long_at bytes at ≡ Ok (v, to) → 0 < to
number_behind bytes at {v} {to} q = let l = long_forward bytes at v to q in omega arith

module _ (m : List ℕ) (n : ℕ) (bytes list : List ℕ) where
  -- ---- what is pending

  pub pending_row : (frames : List ℕ) (here : Here) {row : ℕ} → here.row ≡ Some row
      → pending m n bytes frames list here ≡ after m n bytes frames here.depth (going m n bytes (datum (type_at m n row)) (standing list here))
  unfolding pending from_row
  pending_row frames here e = ap (λ (r : Option ℕ). from_row m n bytes frames here.depth r (standing list here)) e

  pub pending_none : (frames : List ℕ) (here : Here) → here.row ≡ None → pending m n bytes frames list here ≡ outcome m n bytes frames here.depth (standing list here)
  unfolding pending from_row
  pending_none frames here e = ap (λ (r : Option ℕ). from_row m n bytes frames here.depth r (standing list here)) e

  -- ---- a turn

  module _ {frames : List ℕ} {o : Outcome} {more : ℕ} {r : Turn} where
    pub turned_on : {here : Here} → r ≡ Ok here → Bounded bytes frames here → Listed list here → pending m n bytes frames list here ≡ o → to_do here < more
        → Turned m n bytes frames list o more r
    turned_on e b l p t = subst (λ (x : Turn). Turned m n bytes frames list o more x) (sym e) (on b l p t)

    pub turned_stop : {why : Why} {at : ℕ} → r ≡ Err (fault_of why at) → stopped why at ≡ o → Turned m n bytes frames list o more r
    turned_stop {why} {at} e p = subst (λ (x : Turn). Turned m n bytes frames list o more x) (sym e) (stop {f = fault_of why at} p)

    pub turned_bad : {f : Fault} → r ≡ Err f → stopped f.why f.at ≡ o → Turned m n bytes frames list o more r
    turned_bad {f} e p = subst (λ (x : Turn). Turned m n bytes frames list o more x) (sym e) (stop {f = f} p)

  -- of another turn's outcome
  pub turned_as : {frames : List ℕ} {o o' : Outcome} {more more' : ℕ} {r : Turn} → o ≡ o' → more ≤ more' → Turned m n bytes frames list o more r
      → Turned m n bytes frames list o' more' r
  turned_as e l (on {here = here} b k p t) = on b k (p ∙ e) (omega arith)
  turned_as e l (stop {f = f} p) = stop {f = f} (p ∙ e)

  -- ---- blocks

  module _ (frames : List ℕ) (row : ℕ) (here : Here) (b : Bounded bytes frames here) (l : Listed list here) where
    room : here.depth + here.left < steps → 3 * here.depth + 3 ≤ length frames
    room s = let z = b.frames_size in omega arith

    module _ (s : here.depth + here.left < steps) (k : row < row_limit) (v : ℕ) where
      module _ {frames' : List ℕ} {r : Turn} where
        pub block_plain : is_negative v ≡ false → {count : ℕ} → count ≡ absolute v → frames' ≡ pushed frames here.depth row count 0
            → r ≡ Ok (here_of here.at here.left here.given (here.depth + 1) None)
            → Turned m n bytes frames' list (on_block m n bytes frames list row v here) (before here) r
        unfolding on_block standing block
        block_plain e {count} a q g =
            let f : frames' ≡ pushed frames here.depth row (absolute v) 0 = q ∙ ap (λ (x : ℕ). pushed frames here.depth row x 0) a in
            let next = here_of here.at here.left here.given (here.depth + 1) None in
            turned_on g
            (record {
              at_bound = b.at_bound;
              frames_size = ap length f ∙ length_pushed frames here.depth row (absolute v) 0 ∙ b.frames_size;
              frames_room = omega arith;
            })
            (record { list_size = l.list_size; list_room = l.list_room })
            (pending_none frames' next refl
            ∙ ap (λ (x : List ℕ). outcome m n bytes x (here.depth + 1) (standing list next)) f
            ∙ outcome_entries m n bytes frames here.depth row (absolute v) 0 (standing list next) k (room s)
            ∙ ap (after m n bytes frames here.depth)
            (rest_plain bytes (going m n bytes) (type_at m n row) (absolute v) 0 (standing list next) refl
            ∙ sym (pick_false (is_negative v) _ _ e)))
            (omega arith)

        pub block_sized : is_negative v ≡ true → 0 < here.at → {z to count : ℕ} → long_at bytes here.at ≡ Ok (z, to) → count ≡ absolute v
            → frames' ≡ pushed frames here.depth row count here.at
            → {there : Here} → there ≡ here_of to here.left here.given here.depth None
            → r ≡ Ok (here_of there.at there.left there.given (there.depth + 1) None)
            → Turned m n bytes frames' list (on_block m n bytes frames list row v here) (before here) r
        unfolding on_block standing block moved_to
        block_sized e p {z} {to} {count} q a y {there} t u =
            let f : frames' ≡ pushed frames here.depth row (absolute v) here.at = y ∙ ap (λ (x : ℕ). pushed frames here.depth row x here.at) a in
            let g : r ≡ Ok (here_of to here.left here.given (here.depth + 1) None) =
            u ∙ ap (λ (h : Here). Ok (here_of h.at h.left h.given (h.depth + 1) None)) t in
            let next = here_of to here.left here.given (here.depth + 1) None in
            turned_on g
            (record {
              at_bound = long_inside bytes here.at z to q;
              frames_size = ap length f ∙ length_pushed frames here.depth row (absolute v) here.at ∙ b.frames_size;
              frames_room = omega arith;
            })
            (record { list_size = l.list_size; list_room = l.list_room })
            (pending_none frames' next refl
            ∙ ap (λ (x : List ℕ). outcome m n bytes x (here.depth + 1) (standing list next)) f
            ∙ outcome_entries m n bytes frames here.depth row (absolute v) here.at (standing list next) k (room s)
            ∙ ap (after m n bytes frames here.depth)
            (rest_sized bytes (going m n bytes) (type_at m n row) (absolute v) here.at (standing list next) (λ (y : here.at ≡ 0). omega arith)
            ∙ sym (pick_true (is_negative v) _ _ e ∙ number_is bytes _ (standing list here) q)))
            (omega arith)

      pub block_err : is_negative v ≡ true → {f : Fault} → numbered (length bytes) here.at (long_at bytes here.at) ≡ Err f → {r : Turn} → r ≡ Err f
          → Turned m n bytes frames list (on_block m n bytes frames list row v here) (before here) r
      unfolding on_block standing block
      block_err e {f} q g =
          turned_bad g
          (sym (ap (after m n bytes frames here.depth) (pick_true (is_negative v) _ _ e ∙ numbered_err bytes _ (standing list here) (long_at bytes here.at) q)
          ∙ after_stopped m n bytes frames here.depth f.why f.at))

    -- ---- a header

    pub header_none : {r : Turn} → here.left ≡ 0 → r ≡ Err (fault_of TooManySteps here.at)
        → Turned m n bytes frames list (on_blocks m n bytes frames list row here) (to_do here) r
    unfolding on_blocks standing
    header_none e g =
        turned_stop g
        (sym (ap (after m n bytes frames here.depth) (visit_none (rows_from m n 0) bytes steps (blocks (type_at m n row)) (standing list here) e)
        ∙ after_stopped m n bytes frames here.depth TooManySteps here.at))

    module _ (z : here.left ≡ 0 → ⊥) where
      header_step : on_blocks m n bytes frames list row here
          ≡ after m n bytes frames here.depth
          (on_number bytes (long_at bytes here.at) (λ v k. pick (eqb v 0) (went k) (block bytes (going m n bytes) (type_at m n row) v k)) (spent (standing list here)))
      unfolding on_blocks standing spent one_item header
      header_step =
          ap (after m n bytes frames here.depth)
          (visit_step (rows_from m n 0) bytes steps (blocks (type_at m n row)) (standing list here) (omega arith) z)

      module _ (w : here.row ≡ None) {v to : ℕ} (q : long_at bytes here.at ≡ Ok (v, to)) where
        header_read : on_blocks m n bytes frames list row here
            ≡ after m n bytes frames here.depth
            (pick (eqb v 0) (went (moved_to to (spent (standing list here)))) (block bytes (going m n bytes) (type_at m n row) v (moved_to to (spent (standing list here)))))
        header_read = header_step ∙ ap (after m n bytes frames here.depth) (number_is bytes _ (spent (standing list here)) q)

        pub header_end : {r : Turn} → v ≡ 0 → r ≡ Ok (here_of to (here.left - 1) here.given here.depth None)
            → Turned m n bytes frames list (on_blocks m n bytes frames list row here) (to_do here) r
        unfolding standing moved_to spent
        header_end e g =
            let next = here_of to (here.left - 1) here.given here.depth None in
            turned_on g
            (record { at_bound = long_inside bytes here.at v to q; frames_size = b.frames_size; frames_room = omega arith })
            (record { list_size = l.list_size; list_room = omega arith })
            (pending_none frames next refl
            ∙ sym (header_read ∙ ap (after m n bytes frames here.depth) (pick_true (eqb v 0) _ _ (eq-eqb v 0 e)) ∙ after_went m n bytes frames here.depth (standing list next)))
            (omega arith)

        pub header_block : {frames' : List ℕ} {r : Turn} → (v ≡ 0 → ⊥)
            → Turned m n bytes frames' list (on_block m n bytes frames list row v (here_of to (here.left - 1) here.given here.depth None))
            (before (here_of to (here.left - 1) here.given here.depth None)) r
            → Turned m n bytes frames' list (on_blocks m n bytes frames list row here) (to_do here) r
        unfolding standing moved_to spent on_block
        header_block e t =
            turned_as
            (sym (header_read ∙ ap (after m n bytes frames here.depth) (pick_false (eqb v 0) _ _ (ne_eqb v 0 e))))
            (omega arith) t

      pub header_err : {f : Fault} → numbered (length bytes) here.at (long_at bytes here.at) ≡ Err f → {r : Turn} → r ≡ Err f
          → Turned m n bytes frames list (on_blocks m n bytes frames list row here) (to_do here) r
      unfolding spent standing
      header_err {f} q g =
          turned_bad g
          (sym (header_step ∙ ap (after m n bytes frames here.depth) (numbered_err bytes _ (spent (standing list here)) (long_at bytes here.at) q)
          ∙ after_stopped m n bytes frames here.depth f.why f.at))

-- ---- the last frame

-- the parts behind a part: none, or the next one and those behind it
module _ (m : List ℕ) (n f g : ℕ) (p : FirstPart m n (entry_at m f).depth (f + 1) g) where
  behind_none : n ≤ g → parts_behind m n f ≡ []
  unfolding parts_behind parts_from
  behind_none l = sym p.parts ∙ rw (le-ltb g n l)

  behind_next : g < n → parts_behind m n f ≡ type_at m n g ∷ parts_behind m n g
  unfolding parts_behind parts_from
  behind_next l = sym p.parts ∙ rw (lt-ltb g n l, p.deep l)

-- with one frame less
module _ (here : Here) {there : Here} (e : there ≡ here_of here.at here.left here.given (here.depth - 1) None) where
  pub popped_none : there.row ≡ None
  popped_none = ap (λ (h : Here). h.row) e

  pub popped_bounded : {bytes frames : List ℕ} → Bounded bytes frames here → Bounded bytes frames there
  popped_bounded {bytes} {frames} b =
      subst (λ (h : Here). Bounded bytes frames h) (sym e)
      (record { at_bound = b.at_bound; frames_size = b.frames_size; frames_room = (let z = b.frames_room in omega arith) })

  pub popped_listed : {list : List ℕ} → Listed list here → Listed list there
  popped_listed {list} l = subst (λ (h : Here). Listed list h) (sym e) (record { list_size = l.list_size; list_room = l.list_room })

module _ (m : List ℕ) (n : ℕ) (bytes list frames : List ℕ) (here : Here) (b : Bounded bytes frames here) (l : Listed list here) (w : here.row ≡ None) (z : 0 < here.depth) where
  no_row : rowless here.row ≡ 1
  no_row = ap rowless w

  room_top : 3 * here.depth ≤ length frames
  room_top = let e = b.frames_size in omega arith

  -- of a record's parts
  module _ (k : row_limit ≤ get_or frames (3 * (here.depth - 1)) 0) {part : ℕ}
      (p : FirstPart m n (entry_at m (get_or frames (3 * (here.depth - 1)) 0 % row_limit)).depth (get_or frames (3 * (here.depth - 1)) 0 % row_limit + 1) part) {r : Turn} where
    pub parts_end : n ≤ part → r ≡ Ok (here_of here.at here.left here.given (here.depth - 1) None)
        → Turned m n bytes frames list (pending m n bytes frames list here) (to_do here) r
    unfolding standing in_turn
    parts_end e g =
        let next = here_of here.at here.left here.given (here.depth - 1) None in
        let f = get_or frames (3 * (here.depth - 1)) 0 % row_limit in
        turned_on m n bytes list g
        (record { at_bound = b.at_bound; frames_size = b.frames_size; frames_room = omega arith })
        (record { list_size = l.list_size; list_room = l.list_room })
        (pending_none m n bytes list frames next refl
        ∙ sym (pending_none m n bytes list frames here w
        ∙ outcome_top_parts m n bytes frames here.depth z (standing list here) k
        ∙ ap (λ (ps : List (List Row)). after m n bytes frames (here.depth - 1) (in_turn (going m n bytes) ps (standing list here))) (behind_none m n f part p e)
        ∙ after_went m n bytes frames (here.depth - 1) (standing list here)))
        (omega arith)

    pub parts_next : n ≤ row_limit → part < n → {frames' : List ℕ} → frames' ≡ set frames (3 * (here.depth - 1)) (row_limit + part)
        → r ≡ Ok (here_of here.at here.left here.given here.depth (Some part))
        → Turned m n bytes frames' list (pending m n bytes frames list here) (to_do here) r
    unfolding standing in_turn after
    parts_next y e {frames'} f g =
        let next = here_of here.at here.left here.given here.depth (Some part) in
        let i = get_or frames (3 * (here.depth - 1)) 0 % row_limit in
        let h = standing list here in
        let x = no_row in
        turned_on m n bytes list g
        (record { at_bound = b.at_bound; frames_size = ap length f ∙ length-set frames _ _ ∙ b.frames_size; frames_room = b.frames_room })
        (record { list_size = l.list_size; list_room = l.list_room })
        (pending_row m n bytes list frames' next refl
        ∙ ap (λ (c : Stand → Outcome). and_then (going m n bytes (datum (type_at m n part)) h) c)
        (λ j q. (ap (λ (x : List ℕ). outcome m n bytes x here.depth q) f ∙ outcome_first m n bytes frames here.depth z room_top part q (omega arith)) j)
        ∙ sym (pending_none m n bytes list frames here w
        ∙ outcome_top_parts m n bytes frames here.depth z h k
        ∙ ap (λ (ps : List (List Row)). after m n bytes frames (here.depth - 1) (in_turn (going m n bytes) ps h)) (behind_next m n i part p e)
        ∙ after_then m n bytes frames (here.depth - 1) (going m n bytes (datum (type_at m n part)) h) _))
        (omega arith)

  -- of a block
  module _ {row : ℕ} (e : row ≡ get_or frames (3 * (here.depth - 1)) 0) (k : row < row_limit) where
    top_entries : {left size : ℕ} → left ≡ get_or frames (3 * (here.depth - 1) + 1) 0 → size ≡ get_or frames (3 * (here.depth - 1) + 2) 0
        → pending m n bytes frames list here
        ≡ after m n bytes frames (here.depth - 1) (block_rest bytes (going m n bytes) (type_at m n row) left size (standing list here))
    top_entries {left} {size} f g =
        pending_none m n bytes list frames here w
        ∙ outcome_top_entries m n bytes frames here.depth z (standing list here) (omega arith)
        ∙ rw (← e, ← f, ← g)

    -- that has ended
    module _ (f : get_or frames (3 * (here.depth - 1) + 1) 0 ≡ 0) {size : ℕ} (g : size ≡ get_or frames (3 * (here.depth - 1) + 2) 0) where
      top_ended : pending m n bytes frames list here
          ≡ after m n bytes frames (here.depth - 1)
          (and_then (block_end bytes (going m n bytes) size (standing list here)) (λ j. going m n bytes (blocks (type_at m n row)) j))
      top_ended = top_entries (sym f) g ∙ ap (after m n bytes frames (here.depth - 1)) (rest_end bytes (going m n bytes) (type_at m n row) 0 size (standing list here) refl)

      ended_right : block_end bytes (going m n bytes) size (standing list here) ≡ went (standing list here)
          → on_blocks m n bytes frames list row (here_of here.at here.left here.given (here.depth - 1) None) ≡ pending m n bytes frames list here
      unfolding on_blocks standing and_then
      ended_right q =
          sym (top_ended
          ∙ ap (λ (o : Outcome). after m n bytes frames (here.depth - 1) (and_then o (λ j. going m n bytes (blocks (type_at m n row)) j))) q)

      pub ended_on : {frames' : List ℕ} {r : Turn} {there : Here} → there ≡ here_of here.at here.left here.given (here.depth - 1) None
          → Turned m n bytes frames' list (on_blocks m n bytes frames list row there) (to_do there) r → is_right bytes size here.at ≡ true
          → Turned m n bytes frames' list (pending m n bytes frames list here) (to_do here) r
      unfolding block_end standing
      ended_on {frames'} {r} {there} p t q =
          let d : there.depth ≡ here.depth - 1 = ap (λ (h : Here). h.depth) p in
          let y : there.left ≡ here.left = ap (λ (h : Here). h.left) p in
          let x : rowless there.row ≡ 1 = ap (λ (h : Here). rowless h.row) p in
          turned_as m n bytes list
          (ap (λ (h : Here). on_blocks m n bytes frames list row h) p ∙ ended_right (pick_true (is_right bytes size here.at) _ _ q)) (omega arith) t

      pub ended_wrong : {r : Turn} → is_right bytes size here.at ≡ false → r ≡ Err (fault_of BlockSizeWrong size)
          → Turned m n bytes frames list (pending m n bytes frames list here) (to_do here) r
      unfolding block_end standing and_then
      ended_wrong q u =
          turned_stop m n bytes list u
          (sym (top_ended
          ∙ ap (λ (o : Outcome). after m n bytes frames (here.depth - 1) (and_then o (λ j. going m n bytes (blocks (type_at m n row)) j)))
          (pick_false (is_right bytes size here.at) _ _ q)
          ∙ after_stopped m n bytes frames (here.depth - 1) BlockSizeWrong size))

    -- with an entry left
    module _ (f : 0 < get_or frames (3 * (here.depth - 1) + 1) 0) {frames' : List ℕ}
        (g : frames' ≡ set frames (3 * (here.depth - 1) + 1) (get_or frames (3 * (here.depth - 1) + 1) 0 - 1)) {read : Read}
        (q : Reads bytes here.at read (key bytes (type_at m n row))) where
      top_entry : pending m n bytes frames list here
          ≡ and_then (and_then (key bytes (type_at m n row) (standing list here)) (λ y. going m n bytes (datum (inside (type_at m n row))) y))
          (λ y. outcome m n bytes frames' here.depth y)
      unfolding entry
      top_entry =
          let left = get_or frames (3 * (here.depth - 1) + 1) 0 in
          let size = get_or frames (3 * (here.depth - 1) + 2) 0 in
          let type = type_at m n row in
          top_entries refl refl
          ∙ ap (after m n bytes frames (here.depth - 1)) (rest_more bytes (going m n bytes) type left size (standing list here) f)
          ∙ after_then m n bytes frames (here.depth - 1) (entry bytes (going m n bytes) type (standing list here)) _
          ∙ ap (λ (c : Stand → Outcome). and_then (entry bytes (going m n bytes) type (standing list here)) c)
          (λ j y.
          (ap (λ (x : ℕ). after m n bytes frames (here.depth - 1) (block_rest bytes (going m n bytes) (type_at m n x) (left - 1) size y)) e
          ∙ sym (ap (λ (x : List ℕ). outcome m n bytes x here.depth y) g ∙ outcome_second m n bytes frames here.depth z room_top (left - 1) y (omega arith))) j)

      pub entry_bad : {r : Turn} {x : Fault} → read ≡ Err x → r ≡ Err x → Turned m n bytes frames' list (pending m n bytes frames list here) (to_do here) r
      unfolding and_then reading standing
      entry_bad {r} {x} u v =
          turned_bad m n bytes list v
          (sym (top_entry
          ∙ ap (λ (o : Outcome). and_then (and_then o (λ y. going m n bytes (datum (inside (type_at m n row))) y)) (λ y. outcome m n bytes frames' here.depth y))
          (sym (q.says (standing list here) refl) ∙ ap (λ (a : Read). reading a (standing list here)) u)))

      pub entry_to : {r : Turn} → n ≤ row_limit → {to i : ℕ} → read ≡ Ok to → i ≤ n → type_at m n i ≡ inside (type_at m n row)
          → r ≡ Ok (here_of to here.left here.given here.depth (Some i))
          → Turned m n bytes frames' list (pending m n bytes frames list here) (to_do here) r
      unfolding and_then reading standing moved_to after
      entry_to {r} y {to} {i} u v x s =
          let next = here_of to here.left here.given here.depth (Some i) in
          let k = no_row in
          turned_on m n bytes list s
          (record { at_bound = q.within to u; frames_size = ap length g ∙ length-set frames _ _ ∙ b.frames_size; frames_room = b.frames_room })
          (record { list_size = l.list_size; list_room = l.list_room })
          (pending_row m n bytes list frames' next refl
          ∙ ap (λ (t : List Row). after m n bytes frames' here.depth (going m n bytes (datum t) (standing list next))) x
          ∙ sym (top_entry
          ∙ ap (λ (o : Outcome). and_then (and_then o (λ y. going m n bytes (datum (inside (type_at m n row))) y)) (λ y. outcome m n bytes frames' here.depth y))
          (sym (q.says (standing list here) refl) ∙ ap (λ (a : Read). reading a (standing list here)) u)))
          (omega arith)
