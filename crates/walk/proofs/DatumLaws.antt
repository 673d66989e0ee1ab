-- What the datum at a row is, by its kind: one law for each way out of the functions that visit a row, and the whole walk.
-- Assumes nothing.
use Rattle.std.specs.Prelude.{Option, Some, None, Ok, Err}
use mathlib.Core.Path.{◌≡◌, refl, sym, ap, subst, ◌∙◌}
use mathlib.Core.Bool.{true, false}
use mathlib.Core.List.{List, [], ◌∷◌, ◌++◌}
use Prim.Native.Nat.{ℕ, ◌+◌, ◌-◌, ◌*◌, ◌<◌, ◌≤◌}
use native.Mathlib.Numerals.{add-one}
use native.Mathlib.Omega.{arith}
use native.Mathlib.Decide.{dec_lt}
use lib.Dec.{ltb}
use lib.ListN.{length, get_or, set, take, length-set, length-take}
use lib.Seq.{take-suc-set}
use borrow.Author.Tests.{lt-ltb, le-ltb}
use Rattle.ground.proofs.Laws.{never}
use Rattle.answer.specs.declared.refusal.Why.TheVariants.{OutOfRange, TooManySteps}
use Rattle.answer.specs.declared.refusal.Fault.{Fault}
use Rattle.row.specs.Rows.{Row}
use Rattle.row.specs.Layout.{row_limit}
use Rattle.row.specs.Sets.{rows_from}
use Rattle.row.specs.Memory.{entry_at, text_at, row_at}
use Rattle.row.specs.declared.kind.Kind.{Kind}
use Rattle.row.specs.declared.kind.Kind.TheVariants.{Null, Boolean, Int, Long, Float, Double, Bytes, String, Reference, Array, Map, Union, Record, Enum, Fixed, Field, Symbol, Alias, FieldAlias}
use Rattle.resolve.specs.Kinds.{is_kind}
use Rattle.resolve.specs.Resolve.{definition_in}
use Rattle.resolve.proofs.MemoryLaws.{rows_next, rows_end}
use Rattle.walk.specs.Parts.{parts_at, parts_of, first}
use Rattle.walk.specs.Walk.{Stand, Outcome, went, stopped, Item, datum, blocks, and_then, moved_to, giving, spent, in_turn, kind_datum, one_item, steps, walked}
use Rattle.walk.specs.Steps.{Walked, Read, Choice, Turn, type_at, parts_from, parts_behind, FirstPart, Found, Follows, reading, leaf_of, is_leaf, Reads, choosing, Chooses, pushed, rowless, here_of, standing, going, outcome, after, pending, Bounded, Listed, to_do, Turned, on, stop, on_datum, on_blocks, before, Gave, gave, refused}
use Rattle.walk.specs.declared.states.Here.{Here}
use Rattle.walk.proofs.Fuel.{visit_none, visit_step}
use Rattle.walk.proofs.FrameLaws.{pick_true, pick_false, length_pushed, after_went, after_stopped, after_then, outcome_end, outcome_parts}
use Rattle.walk.proofs.LeafLaws.{fault_of}
use Rattle.walk.proofs.TurnLaws.{pending_row, pending_none, turned_on, turned_stop, turned_bad, turned_as}

-- a datum without parts is read by its kind alone
kind_leaf : (rows : List Row) (bytes : List ℕ) (go : Item → Stand → Outcome) (k : Kind) (r : Row) (rest : List Row) (h : Stand) → is_leaf k ≡ true
    → kind_datum rows bytes go k r rest h ≡ leaf_of bytes k r.size h
unfolding kind_datum leaf_of is_leaf is_kind
kind_leaf rows bytes go Null r rest h e = refl
kind_leaf rows bytes go Boolean r rest h e = refl
kind_leaf rows bytes go Int r rest h e = refl
kind_leaf rows bytes go Long r rest h e = refl
kind_leaf rows bytes go Float r rest h e = refl
kind_leaf rows bytes go Double r rest h e = refl
kind_leaf rows bytes go Bytes r rest h e = refl
kind_leaf rows bytes go String r rest h e = refl
kind_leaf rows bytes go Fixed r rest h e = refl
kind_leaf rows bytes go Symbol r rest h e = refl
kind_leaf rows bytes go Alias r rest h e = refl
kind_leaf rows bytes go FieldAlias r rest h e = refl
kind_leaf rows bytes go Reference r rest h e = never e
kind_leaf rows bytes go Array r rest h e = never e
kind_leaf rows bytes go Map r rest h e = never e
kind_leaf rows bytes go Union r rest h e = never e
kind_leaf rows bytes go Record r rest h e = never e
kind_leaf rows bytes go Enum r rest h e = never e
kind_leaf rows bytes go Field r rest h e = never e

-- a number that says which part
module _ (at : ℕ) (ps : List (List Row)) (next : List Row → Stand → Outcome) (h : Stand) {c : Choice} where
  choosing_none : {x : Fault} → c ≡ Err x → choosing c at ps next h ≡ stopped x.why x.at
  unfolding choosing
  choosing_none e = rw e

  choosing_some : {v to : ℕ} → c ≡ Ok (v, to) → ltb v (length ps) ≡ true → choosing c at ps next h ≡ next (get_or ps v []) (moved_to to h)
  unfolding choosing
  choosing_some e f = rw e (pick_true _ _ _ f)

  choosing_far : {v to : ℕ} → c ≡ Ok (v, to) → ltb v (length ps) ≡ false → choosing c at ps next h ≡ stopped OutOfRange at
  unfolding choosing
  choosing_far e f = rw e (pick_false _ _ _ f)

-- parts: none, or the first one and those behind it
module _ (m : List ℕ) (n d i j : ℕ) (p : FirstPart m n d i j) where
  pub parts_none : n ≤ j → parts_at d (type_at m n i) ≡ []
  unfolding parts_from
  parts_none l = sym p.parts ∙ rw (le-ltb j n l)

  pub parts_some : j < n → parts_at d (type_at m n i) ≡ type_at m n j ∷ parts_behind m n j
  unfolding parts_from parts_behind
  parts_some l = sym p.parts ∙ rw (lt-ltb j n l, p.deep l)

  pub parts_first : type_at m n j ≡ first (parts_at d (type_at m n i))
  unfolding parts_from first
  parts_first = go (dec_lt j n)
    where
      go : Dec (j < n) → type_at m n j ≡ first (parts_at d (type_at m n i))
      go (yes l) = sym (ap first (parts_some l))
      go (no l) = rows_end m j n (omega arith) ∙ sym (ap first (parts_none (omega arith)))

-- a step is taken
pub step_bounded : (bytes frames : List ℕ) (here : Here) → Bounded bytes frames here → Bounded bytes frames (here_of here.at (here.left - 1) here.given here.depth None)
step_bounded bytes frames here b = record { at_bound = b.at_bound; frames_size = b.frames_size; frames_room = omega arith }

pub step_listed : (list : List ℕ) (here : Here) → Listed list here → Listed list (here_of here.at (here.left - 1) here.given here.depth None)
step_listed list here l = record { list_size = l.list_size; list_room = omega arith }

module _ (m : List ℕ) (n : ℕ) (bytes : List ℕ) where
  -- the datum at a row, by its kind
  module _ (frames list : List ℕ) (row : ℕ) (here : Here) (i : row < n) {k : Kind} (e : k ≡ (entry_at m row).kind) where
    datum_kind : on_datum m n bytes frames list row here
        ≡ after m n bytes frames here.depth (kind_datum (rows_from m n 0) bytes (going m n bytes) k (row_at m row) (type_at m n (row + 1)) (standing list here))
    unfolding on_datum one_item
    datum_kind =
        ap (λ (t : List Row). after m n bytes frames here.depth (one_item (rows_from m n 0) bytes (going m n bytes) (datum t) (standing list here))) (rows_next m row n i)
        ∙ ap (λ (x : Kind). after m n bytes frames here.depth (kind_datum (rows_from m n 0) bytes (going m n bytes) x (row_at m row) (type_at m n (row + 1)) (standing list here))) (sym e)

    module _ (b : Bounded bytes frames here) (l : Listed list here) where
      -- ---- without parts

      module _ {size : ℕ} (s : size ≡ (entry_at m row).size) (f : is_leaf k ≡ true) {read : Read} (q : Reads bytes here.at read (leaf_of bytes k size)) where
        plain_read : on_datum m n bytes frames list row here ≡ after m n bytes frames here.depth (reading read (standing list here))
        unfolding standing
        plain_read =
            datum_kind
            ∙ ap (after m n bytes frames here.depth)
            (kind_leaf (rows_from m n 0) bytes (going m n bytes) k (row_at m row) (type_at m n (row + 1)) (standing list here) f
            ∙ ap (λ (x : ℕ). leaf_of bytes k x (standing list here)) (sym s)
            ∙ sym (q.says (standing list here) refl))

        pub plain_to : {r : Turn} {to : ℕ} → read ≡ Ok to → r ≡ Ok (here_of to here.left here.given here.depth None)
            → Turned m n bytes frames list (on_datum m n bytes frames list row here) (before here) r
        unfolding standing reading moved_to
        plain_to {r} {to} u g =
            let next = here_of to here.left here.given here.depth None in
            turned_on m n bytes list g
            (record { at_bound = q.within to u; frames_size = b.frames_size; frames_room = b.frames_room })
            (record { list_size = l.list_size; list_room = l.list_room })
            (pending_none m n bytes list frames next refl
            ∙ sym (plain_read ∙ ap (λ (x : Read). after m n bytes frames here.depth (reading x (standing list here))) u ∙ after_went m n bytes frames here.depth (standing list next)))
            (omega arith)

        pub plain_bad : {r : Turn} {x : Fault} → read ≡ Err x → r ≡ Err x → Turned m n bytes frames list (on_datum m n bytes frames list row here) (before here) r
        unfolding reading
        plain_bad {r} {x} u g =
            turned_bad m n bytes list g
            (sym (plain_read ∙ ap (λ (y : Read). after m n bytes frames here.depth (reading y (standing list here))) u
            ∙ after_stopped m n bytes frames here.depth x.why x.at))

      -- ---- a reference, and the blocks of an array or map

      pub reference_to : {r : Turn} {d : ℕ} → k ≡ Reference → n ≤ row_limit → d ≤ n → type_at m n d ≡ definition_in (text_at m row) (rows_from m n 0)
          → r ≡ Ok (here_of here.at here.left here.given here.depth (Some d))
          → Turned m n bytes frames list (on_datum m n bytes frames list row here) (before here) r
      unfolding standing kind_datum
      reference_to {r} {d} f y z x g =
          let next = here_of here.at here.left here.given here.depth (Some d) in
          turned_on m n bytes list g
          (record { at_bound = b.at_bound; frames_size = b.frames_size; frames_room = b.frames_room })
          (record { list_size = l.list_size; list_room = l.list_room })
          (pending_row m n bytes list frames next refl
          ∙ ap (λ (t : List Row). after m n bytes frames here.depth (going m n bytes (datum t) (standing list here))) x
          ∙ sym (datum_kind
          ∙ ap (λ (y : Kind). after m n bytes frames here.depth (kind_datum (rows_from m n 0) bytes (going m n bytes) y (row_at m row) (type_at m n (row + 1)) (standing list here))) f))
          (omega arith)

      blocks_kind : {a : Kind} → k ≡ a → ((kind_datum (rows_from m n 0) bytes (going m n bytes) a (row_at m row) (type_at m n (row + 1)) (standing list here)) ≡ going m n bytes (blocks (row_at m row ∷ type_at m n (row + 1))) (standing list here))
          → on_blocks m n bytes frames list row here ≡ on_datum m n bytes frames list row here
      unfolding on_blocks
      blocks_kind {a} f g =
          ap (λ (t : List Row). after m n bytes frames here.depth (going m n bytes (blocks t) (standing list here))) (rows_next m row n i)
          ∙ sym (datum_kind
          ∙ ap (λ (y : Kind). after m n bytes frames here.depth (kind_datum (rows_from m n 0) bytes (going m n bytes) y (row_at m row) (type_at m n (row + 1)) (standing list here))) f
          ∙ ap (after m n bytes frames here.depth) g)

      module _ {frames' : List ℕ} {r : Turn} (w : here.row ≡ None) (t : Turned m n bytes frames' list (on_blocks m n bytes frames list row here) (to_do here) r) where
        pub array_blocks : k ≡ Array → Turned m n bytes frames' list (on_datum m n bytes frames list row here) (before here) r
        unfolding kind_datum
        array_blocks f = let x : rowless here.row ≡ 1 = ap rowless w in turned_as m n bytes list (blocks_kind f refl) (omega arith) t

        pub map_blocks : k ≡ Map → Turned m n bytes frames' list (on_datum m n bytes frames list row here) (before here) r
        unfolding kind_datum
        map_blocks f = let x : rowless here.row ≡ 1 = ap rowless w in turned_as m n bytes list (blocks_kind f refl) (omega arith) t

      -- ---- a record

      module _ (f : k ≡ Record) {part : ℕ} (p : FirstPart m n ((entry_at m row).depth + 1) (row + 1) part) where
        record_parts : on_datum m n bytes frames list row here
            ≡ after m n bytes frames here.depth (in_turn (going m n bytes) (parts_at ((entry_at m row).depth + 1) (type_at m n (row + 1))) (standing list here))
        unfolding kind_datum parts_of
        record_parts =
            datum_kind
            ∙ ap (λ (y : Kind). after m n bytes frames here.depth (kind_datum (rows_from m n 0) bytes (going m n bytes) y (row_at m row) (type_at m n (row + 1)) (standing list here))) f

        pub record_end : {r : Turn} → here.row ≡ None → n ≤ part → r ≡ Ok here → Turned m n bytes frames list (on_datum m n bytes frames list row here) (before here) r
        unfolding in_turn
        record_end w y g =
            let x : rowless here.row ≡ 1 = ap rowless w in
            turned_on m n bytes list g b l
            (pending_none m n bytes list frames here w
            ∙ sym (record_parts
            ∙ ap (λ (ps : List (List Row)). after m n bytes frames here.depth (in_turn (going m n bytes) ps (standing list here))) (parts_none m n _ _ part p y)
            ∙ after_went m n bytes frames here.depth (standing list here)))
            (omega arith)

        pub record_next : {r : Turn} {frames' : List ℕ} → n ≤ row_limit → here.depth + here.left < steps → part < n
            → frames' ≡ pushed frames here.depth (row_limit + part) 0 0
            → r ≡ Ok (here_of here.at here.left here.given (here.depth + 1) (Some part))
            → Turned m n bytes frames' list (on_datum m n bytes frames list row here) (before here) r
        unfolding standing in_turn after
        record_next {r} {frames'} y s z q g =
            let next = here_of here.at here.left here.given (here.depth + 1) (Some part) in
            let h = standing list here in
            let c : 3 * here.depth + 3 ≤ length frames = (let e = b.frames_size in omega arith) in
            turned_on m n bytes list g
            (record {
              at_bound = b.at_bound;
              frames_size = ap length q ∙ length_pushed frames here.depth (row_limit + part) 0 0 ∙ b.frames_size;
              frames_room = omega arith;
            })
            (record { list_size = l.list_size; list_room = l.list_room })
            (pending_row m n bytes list frames' next refl
            ∙ ap (λ (g : Stand → Outcome). and_then (going m n bytes (datum (type_at m n part)) h) g)
            (λ j x. (ap (λ (a : List ℕ). outcome m n bytes a (here.depth + 1) x) q ∙ outcome_parts m n bytes frames here.depth (row_limit + part) 0 0 part x refl (omega arith) c) j)
            ∙ sym (record_parts
            ∙ ap (λ (ps : List (List Row)). after m n bytes frames here.depth (in_turn (going m n bytes) ps h)) (parts_some m n _ _ part p z)
            ∙ after_then m n bytes frames here.depth (going m n bytes (datum (type_at m n part)) h) _))
            (omega arith)

      -- ---- a field: its offset is given

      given_listed : {at : ℕ} {row' : Option ℕ} {list' : List ℕ} → here.given + here.left < steps → list' ≡ set list here.given at
          → Listed list' (here_of at here.left (here.given + 1) here.depth row')
      given_listed {at} s e = record { list_size = ap length e ∙ length-set list here.given at ∙ l.list_size; list_room = omega arith }

      given_stands : (at : ℕ) (row' : Option ℕ) {list' : List ℕ} → here.given + here.left < steps → list' ≡ set list here.given at
          → standing list' (here_of at here.left (here.given + 1) here.depth row') ≡ giving (moved_to at (standing list here))
      unfolding standing giving moved_to
      given_stands at row' {list'} s e =
          let c : here.given < length list = (let z = l.list_size in omega arith) in
          let q : take (here.given + 1) list' ≡ take here.given list ++ (at ∷ []) =
          ap (λ (x : List ℕ). take (here.given + 1) x) e ∙ ap (λ (x : ℕ). take x (set list here.given at)) (add-one here.given) ∙ take-suc-set list here.given at c in
          λ j. record { at = at; left = here.left; given = q j }

      pub field_to : {r : Turn} {list' : List ℕ} {part : ℕ} → k ≡ Field → n ≤ row_limit → here.given + here.left < steps
          → FirstPart m n ((entry_at m row).depth + 1) (row + 1) part → list' ≡ set list here.given here.at
          → r ≡ Ok (here_of here.at here.left (here.given + 1) here.depth (Some part))
          → Turned m n bytes frames list' (on_datum m n bytes frames list row here) (before here) r
      unfolding kind_datum parts_of moved_to standing
      field_to {r} {list'} {part} f y s p q g =
          let next = here_of here.at here.left (here.given + 1) here.depth (Some part) in
          let z = p.below in
          turned_on m n bytes list' g
          (record { at_bound = b.at_bound; frames_size = b.frames_size; frames_room = b.frames_room })
          (given_listed s q)
          (pending_row m n bytes list' frames next refl
          ∙ ap (λ (t : List Row). after m n bytes frames here.depth (going m n bytes (datum t) (standing list' next))) (parts_first m n _ _ part p)
          ∙ ap (λ (h : Stand). after m n bytes frames here.depth (going m n bytes (datum (first (parts_at ((entry_at m row).depth + 1) (type_at m n (row + 1))))) h)) (given_stands here.at (Some part) s q)
          ∙ sym (datum_kind
          ∙ ap (λ (y : Kind). after m n bytes frames here.depth (kind_datum (rows_from m n 0) bytes (going m n bytes) y (row_at m row) (type_at m n (row + 1)) (standing list here))) f))
          (omega arith)

      -- ---- a number that says which part

      module _ {choice : Choice} (q : Chooses bytes here.at choice) where
        union_choice : k ≡ Union → on_datum m n bytes frames list row here
            ≡ after m n bytes frames here.depth
            (choosing choice here.at (parts_at ((entry_at m row).depth + 1) (type_at m n (row + 1))) (λ p h. going m n bytes (datum p) (giving h)) (standing list here))
        unfolding kind_datum parts_of standing
        union_choice f =
            datum_kind
            ∙ ap (λ (y : Kind). after m n bytes frames here.depth (kind_datum (rows_from m n 0) bytes (going m n bytes) y (row_at m row) (type_at m n (row + 1)) (standing list here))) f
            ∙ ap (after m n bytes frames here.depth) (sym (q.says _ _ (standing list here) refl))

        enum_choice : k ≡ Enum → on_datum m n bytes frames list row here
            ≡ after m n bytes frames here.depth
            (choosing choice here.at (parts_at ((entry_at m row).depth + 1) (type_at m n (row + 1))) (λ p h. went h) (standing list here))
        unfolding kind_datum parts_of standing
        enum_choice f =
            datum_kind
            ∙ ap (λ (y : Kind). after m n bytes frames here.depth (kind_datum (rows_from m n 0) bytes (going m n bytes) y (row_at m row) (type_at m n (row + 1)) (standing list here))) f
            ∙ ap (after m n bytes frames here.depth) (sym (q.says _ _ (standing list here) refl))

        -- no number
        module _ {x : Fault} (u : choice ≡ Err x) {r : Turn} (g : r ≡ Err x) where
          pub union_bad : k ≡ Union → Turned m n bytes frames list (on_datum m n bytes frames list row here) (before here) r
          union_bad f =
              turned_bad m n bytes list g
              (sym (union_choice f ∙ ap (after m n bytes frames here.depth) (choosing_none _ _ _ _ u) ∙ after_stopped m n bytes frames here.depth x.why x.at))

          pub enum_bad : k ≡ Enum → Turned m n bytes frames list (on_datum m n bytes frames list row here) (before here) r
          enum_bad f =
              turned_bad m n bytes list g
              (sym (enum_choice f ∙ ap (after m n bytes frames here.depth) (choosing_none _ _ _ _ u) ∙ after_stopped m n bytes frames here.depth x.why x.at))

        module _ {v to part : ℕ} (u : choice ≡ Ok (v, to))
            (y : ltb part n ≡ ltb v (length (parts_at ((entry_at m row).depth + 1) (type_at m n (row + 1))))) where
          -- no such part
          module _ (z : n ≤ part) {r : Turn} (g : r ≡ Err (fault_of OutOfRange here.at)) where
            pub union_none : k ≡ Union → Turned m n bytes frames list (on_datum m n bytes frames list row here) (before here) r
            union_none f =
                turned_stop m n bytes list g
                (sym (union_choice f ∙ ap (after m n bytes frames here.depth) (choosing_far _ _ _ _ u (sym y ∙ le-ltb part n z))
                ∙ after_stopped m n bytes frames here.depth OutOfRange here.at))

            pub enum_none : k ≡ Enum → Turned m n bytes frames list (on_datum m n bytes frames list row here) (before here) r
            enum_none f =
                turned_stop m n bytes list g
                (sym (enum_choice f ∙ ap (after m n bytes frames here.depth) (choosing_far _ _ _ _ u (sym y ∙ le-ltb part n z))
                ∙ after_stopped m n bytes frames here.depth OutOfRange here.at))

          module _ (z : part < n) where
            pub enum_to : {r : Turn} → k ≡ Enum → r ≡ Ok (here_of to here.left here.given here.depth None)
                → Turned m n bytes frames list (on_datum m n bytes frames list row here) (before here) r
            unfolding standing moved_to
            enum_to {r} f g =
                let next = here_of to here.left here.given here.depth None in
                turned_on m n bytes list g
                (record { at_bound = q.within v to u; frames_size = b.frames_size; frames_room = b.frames_room })
                (record { list_size = l.list_size; list_room = l.list_room })
                (pending_none m n bytes list frames next refl
                ∙ sym (enum_choice f ∙ ap (after m n bytes frames here.depth) (choosing_some _ _ _ _ u (sym y ∙ lt-ltb part n z))
                ∙ after_went m n bytes frames here.depth (standing list next)))
                (omega arith)

            pub union_to : {r : Turn} {list' : List ℕ} → k ≡ Union → n ≤ row_limit → here.given + here.left < steps
                → type_at m n part ≡ get_or (parts_at ((entry_at m row).depth + 1) (type_at m n (row + 1))) v []
                → list' ≡ set list here.given to → r ≡ Ok (here_of to here.left (here.given + 1) here.depth (Some part))
                → Turned m n bytes frames list' (on_datum m n bytes frames list row here) (before here) r
            union_to {r} {list'} f o s x e g =
                let next = here_of to here.left (here.given + 1) here.depth (Some part) in
                turned_on m n bytes list' g
                (record { at_bound = q.within v to u; frames_size = b.frames_size; frames_room = b.frames_room })
                (given_listed s e)
                (pending_row m n bytes list' frames next refl
                ∙ ap (λ (t : List Row). after m n bytes frames here.depth (going m n bytes (datum t) (standing list' next))) x
                ∙ ap (λ (h : Stand). after m n bytes frames here.depth (going m n bytes (datum (get_or (parts_at ((entry_at m row).depth + 1) (type_at m n (row + 1))) v [])) h)) (given_stands to (Some part) s e)
                ∙ sym (union_choice f ∙ ap (after m n bytes frames here.depth) (choosing_some _ _ _ _ u (sym y ∙ lt-ltb part n z))))
                (omega arith)

  -- ---- a row that is to be visited

  module _ (frames list : List ℕ) (here : Here) {row : ℕ} (b : Bounded bytes frames here) (l : Listed list here) (w : here.row ≡ Some row) where
    pub visit_spent : {r : Turn} → here.left ≡ 0 → r ≡ Err (fault_of TooManySteps here.at)
        → Turned m n bytes frames list (pending m n bytes frames list here) (to_do here) r
    unfolding standing
    visit_spent e g =
        turned_stop m n bytes list g
        (sym (pending_row m n bytes list frames here w
        ∙ ap (after m n bytes frames here.depth) (visit_none (rows_from m n 0) bytes steps (datum (type_at m n row)) (standing list here) e)
        ∙ after_stopped m n bytes frames here.depth TooManySteps here.at))

    module _ (z : here.left ≡ 0 → ⊥) where
      row_step : on_datum m n bytes frames list row (here_of here.at (here.left - 1) here.given here.depth None) ≡ pending m n bytes frames list here
      unfolding on_datum standing spent
      row_step =
          sym (pending_row m n bytes list frames here w
          ∙ ap (after m n bytes frames here.depth)
          (visit_step (rows_from m n 0) bytes steps (datum (type_at m n row)) (standing list here) (omega arith) z))

      pub visit_nothing : {r : Turn} → n ≤ row → r ≡ Ok (here_of here.at (here.left - 1) here.given here.depth None)
          → Turned m n bytes frames list (pending m n bytes frames list here) (to_do here) r
      unfolding on_datum one_item
      visit_nothing y g =
          let next = here_of here.at (here.left - 1) here.given here.depth None in
          turned_on m n bytes list g (step_bounded bytes frames here b) (step_listed list here l)
          (pending_none m n bytes list frames next refl
          ∙ sym (ap (λ (t : List Row). after m n bytes frames here.depth (one_item (rows_from m n 0) bytes (going m n bytes) (datum t) (standing list next))) (rows_end m row n y)
          ∙ after_went m n bytes frames here.depth (standing list next))
          ∙ row_step)
          (omega arith)

      pub visit_datum : {frames' list' : List ℕ} {r : Turn}
          → Turned m n bytes frames' list' (on_datum m n bytes frames list row (here_of here.at (here.left - 1) here.given here.depth None))
          (before (here_of here.at (here.left - 1) here.given here.depth None)) r
          → Turned m n bytes frames' list' (pending m n bytes frames list here) (to_do here) r
      visit_datum {frames'} {list'} t = turned_as m n bytes list' row_step (omega arith) t

-- ---- the whole walk

then_went : (o : Outcome) → and_then o (λ k. went k) ≡ o
unfolding and_then
then_went (went h) = refl
then_went (stopped w p) = refl

length_of_take : (l : List ℕ) (n : ℕ) → n ≤ length l → length (take n l) ≡ n
length_of_take l n h = length-take n l ∙ omega arith

pub on_turn : {m : List ℕ} {n : ℕ} {bytes frames list : List ℕ} {o : Outcome} {more : ℕ} {r : Turn} {here : Here} → r ≡ Ok here
    → Turned m n bytes frames list o more r → Bounded bytes frames here × Listed list here × (pending m n bytes frames list here ≡ o) × (to_do here < more)
on_turn {m} {n} {bytes} {frames} {list} {o} {more} {r} {here} e t = told (subst (λ (x : Turn). Turned m n bytes frames list o more x) e t)
  where
    told : Turned m n bytes frames list o more (Ok here) → Bounded bytes frames here × Listed list here × (pending m n bytes frames list here ≡ o) × (to_do here < more)
    told (on b l p s) = (b, l, p, s)

pub stop_turn : {m : List ℕ} {n : ℕ} {bytes frames list : List ℕ} {o : Outcome} {more : ℕ} {r : Turn} {f : Fault} → r ≡ Err f
    → Turned m n bytes frames list o more r → stopped f.why f.at ≡ o
stop_turn {m} {n} {bytes} {frames} {list} {o} {more} {r} {f} e t = told (subst (λ (x : Turn). Turned m n bytes frames list o more x) e t)
  where
    told : Turned m n bytes frames list o more (Err f) → stopped f.why f.at ≡ o
    told (stop p) = p

pub gave_stop : (list : List ℕ) {f : Fault} {o : Outcome} → stopped f.why f.at ≡ o → {r : Walked} → r ≡ Err f → Gave list o r
gave_stop list {f} e g = rw g (subst (λ (x : Outcome). Gave list x (Err f)) e (refused {f = f}))

pub gave_end : (m : List ℕ) (n : ℕ) (bytes list frames : List ℕ) (here : Here) {o : Outcome} → Listed list here → here.row ≡ None → here.depth ≡ 0
    → pending m n bytes frames list here ≡ o → Gave list o (Ok (here.at, here.given))
unfolding standing
gave_end m n bytes list frames here l w d p =
    let h = standing list here in
    let s : length (take here.given list) ≡ here.given = length_of_take list here.given (let z = l.list_size in let y = l.list_room in omega arith) in
    subst (λ (x : Outcome). Gave list x (Ok (here.at, here.given)))
    (sym (outcome_end m n bytes frames here.depth h d) ∙ sym (pending_none m n bytes list frames here w) ∙ p)
    (subst (λ (x : ℕ). Gave list (went h) (Ok (here.at, x))) s
    (gave {h = h} (let y = l.list_room in omega arith) (ap (λ (x : ℕ). take x list) s)))

module _ (m : List ℕ) (n : ℕ) (bytes : List ℕ) (row : ℕ) (at : ℕ) where
  pub starts : (frames list : List ℕ) → pending m n bytes frames list (here_of at steps 0 0 (Some row)) ≡ walked (rows_from m n 0) bytes (type_at m n row) at
  unfolding after standing walked
  starts frames list =
      let h : Stand = record { at = at; left = steps; given = [] } in
      pending_row m n bytes list frames (here_of at steps 0 0 (Some row)) refl
      ∙ ap (λ (g : Stand → Outcome). and_then (going m n bytes (datum (type_at m n row)) h) g) (λ j k. outcome_end m n bytes frames 0 k refl j)
      ∙ then_went (going m n bytes (datum (type_at m n row)) h)

-- what a walk keeps from turn to turn
pub record Held (m : List ℕ) (n : ℕ) (bytes : List ℕ) (row at : ℕ) (frames list : List ℕ) (found next : List (Option ℕ)) (here : Here) : Type 0 where
  pub bounded : Bounded bytes frames here
  pub listed : Listed list here
  pub whole : pending m n bytes frames list here ≡ walked (rows_from m n 0) bytes (type_at m n row) at
  pub defined : Found m n found
  pub follows : Follows m n next
  pub found_size : length found ≡ row_limit
  pub next_size : length next ≡ row_limit

module _ {m : List ℕ} {n : ℕ} {bytes : List ℕ} {row at : ℕ} {frames list : List ℕ} {found next : List (Option ℕ)} {here : Here} (k : Held m n bytes row at frames list found next here) where
  pub held_on : {frames' list' : List ℕ} {found' next' : List (Option ℕ)} {r : Turn} {h : Here} → r ≡ Ok h
      → Turned m n bytes frames' list' (pending m n bytes frames list here) (to_do here) r → Found m n found' → Follows m n next'
      → length found' ≡ row_limit → length next' ≡ row_limit → Held m n bytes row at frames' list' found' next' h
  held_on e t f g a b =
      let o = on_turn e t in
      record { bounded = o.0; listed = o.1; whole = o.2 ∙ k.whole; defined = f; follows = g; found_size = a; next_size = b }
