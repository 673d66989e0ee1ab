-- Data that have no parts: what each answer of a reader says of a walk that stands at the offset.
-- Assumes nothing.
use Rattle.std.specs.Prelude.{Ok, Err}
use mathlib.Core.Path.{◌≡◌, refl, sym, ap, ◌∙◌}
use mathlib.Core.Bool.{Bool, true, false, not, ◌&&◌, ◌||◌}
use mathlib.Core.Logic.{⊎_elim}
use mathlib.Core.List.{List, [], ◌∷◌}
use Prim.Native.Nat.{ℕ, ◌+◌, ◌-◌, ◌<◌, ◌≤◌}
use native.Mathlib.Omega.{arith}
use native.Mathlib.Decide.{ℕ_discrete}
use lib.Dec.{eqb, leb, ltb}
use lib.ListN.{length, get_or}
use types.Run.{OneOf}
use denote.Enum.Declared.{tag_of}
use borrow.Author.Tests.{eq-eqb, ne_eqb, lt-ltb, le-ltb, le-leb, lt-leb}
use Rattle.ground.specs.Bytes.{byte_at}
use Rattle.ground.proofs.Laws.{never, byte_at_lem}
use Rattle.answer.specs.declared.refusal.Fault.{Fault}
use Rattle.answer.specs.declared.refusal.Why.{Why}
use Rattle.answer.specs.declared.refusal.Why.TheVariants.{CutShort, NumberWrong, OutOfRange}
use Rattle.binary.specs.Numbers.{Number, int_at, long_at, is_negative, absolute}
use Rattle.binary.specs.declared.number.NumberError.{NumberError}
use Rattle.binary.specs.declared.number.NumberError.TheVariants.{Cut, Wrong}
use Rattle.binary.proofs.Laws.{same_end, int_inside, long_inside}
use Rattle.row.specs.Rows.{Row}
use Rattle.row.specs.declared.kind.Kind.{Kind}
use Rattle.row.specs.declared.kind.Kind.TheVariants.{Null, Boolean, Int, Long, Float, Double, Bytes, String, Reference, Array, Map, Union, Record, Enum, Fixed, Field, Symbol, Alias, FieldAlias}
use Rattle.row.specs.contracts.kind.Kind.{the_type}
use Rattle.resolve.specs.Kinds.{is_kind}
use Rattle.walk.specs.Walk.{Stand, Outcome, went, stopped, pick, moved_to, passed, on_number, on_int, on_long, flag, counted, chosen, is_size}
use Rattle.walk.specs.Steps.{Read, Choice, numbered, is_leaf, reading, leaf_of, Reads, choosing, Chooses}

abbrev pub fault_of : Why → ℕ → Fault
fault_of why at = record { why = why; at = at }

-- ---- a number, or what is wrong where none stands

pub numbered_ok : (size at : ℕ) (x : Number) {v to : ℕ} → numbered size at x ≡ Ok (v, to) → x ≡ Ok (v, to)
unfolding numbered
numbered_ok size at (Ok n) {v} {to} e = let z : n ≡ (v, to) = cc in ap Ok z
numbered_ok size at (Err Cut) e = absurd cc
numbered_ok size at (Err Wrong) e = absurd cc

pub numbered_err : (bytes : List ℕ) (next : ℕ → Stand → Outcome) (h : Stand) (x : Number) {f : Fault} → numbered (length bytes) h.at x ≡ Err f
    → on_number bytes x next h ≡ stopped f.why f.at
unfolding numbered on_number
numbered_err bytes next h (Ok n) e = absurd cc
numbered_err bytes next h (Err Cut) {f} e = let z : fault_of CutShort (length bytes) ≡ f = cc in ap (λ (g : Fault). stopped g.why g.at) z
numbered_err bytes next h (Err Wrong) {f} e = let z : fault_of NumberWrong h.at ≡ f = cc in ap (λ (g : Fault). stopped g.why g.at) z

pick_true : (b : Bool) (x y : Outcome) → b ≡ true → pick b x y ≡ x
unfolding pick
pick_true b x y e = rw e

pick_false : (b : Bool) (x y : Outcome) → b ≡ false → pick b x y ≡ y
unfolding pick
pick_false b x y e = rw e

-- where a walk stood before does not matter
reading_moved : (r : Read) (p : ℕ) (h : Stand) → reading r (moved_to p h) ≡ reading r h
unfolding reading moved_to
reading_moved (Ok q) p h = refl
reading_moved (Err f) p h = refl

module _ (bytes : List ℕ) (at : ℕ) where
  -- ---- answers

  reads_ok : (of : Stand → Outcome) (p : ℕ) → p ≤ length bytes → ((h : Stand) → h.at ≡ at → went (moved_to p h) ≡ of h) → Reads bytes at (Ok p) of
  unfolding reading
  reads_ok of p l s = record { says = s; within = λ q e. let z : p ≡ q = cc in omega (arith, l, z) }

  reads_err : (of : Stand → Outcome) {f : Fault} {r : Read} → r ≡ Err f → ((h : Stand) → h.at ≡ at → stopped f.why f.at ≡ of h) → Reads bytes at r of
  unfolding reading
  reads_err of e s = rw e (record { says = s; within = λ q g. absurd cc })

  no_choice : {f : Fault} {r : Choice} → r ≡ Err f
      → ((ps : List (List Row)) (next : List Row → Stand → Outcome) (h : Stand) → h.at ≡ at → stopped f.why f.at ≡ chosen bytes ps next h)
      → Chooses bytes at r
  unfolding choosing
  no_choice e s = rw e (record { says = s; within = λ v q g. absurd cc })

  -- another name of the same outcome
  reads_as : {of of' : Stand → Outcome} {r : Read} → Reads bytes at r of → ((h : Stand) → of h ≡ of' h) → Reads bytes at r of'
  reads_as p s = record { says = λ h e. p.says h e ∙ s h; within = p.within }

  -- ---- so many bytes

  module _ (n : ℕ) (l : at ≤ length bytes) where
    pub pass_cut : {r : Read} → r ≡ Err (fault_of CutShort (length bytes)) → length bytes - at < n → Reads bytes at r (passed bytes n)
    unfolding passed
    pass_cut e k =
        reads_err (passed bytes n) e
        (λ h q. sym (pick_false (leb (h.at + n) (length bytes)) _ _ (lt-leb (h.at + n) (length bytes) (omega (arith, l, k, q)))))

    pub pass_ok : n ≤ length bytes - at → Reads bytes at (Ok (at + n)) (passed bytes n)
    unfolding passed
    pass_ok k =
        reads_ok (passed bytes n) (at + n) (omega (arith, l, k))
        (λ h q.
        ap (λ (x : ℕ). went (moved_to (x + n) h)) (sym q)
        ∙ sym (pick_true (leb (h.at + n) (length bytes)) _ _ (le-leb (h.at + n) (length bytes) (omega (arith, l, k, q)))))

  -- ---- a boolean

  pub flag_cut : {r : Read} → r ≡ Err (fault_of CutShort (length bytes)) → length bytes ≤ at → Reads bytes at r (flag bytes)
  unfolding flag
  flag_cut e k =
      reads_err (flag bytes) e
      (λ h q. sym (pick_false (ltb h.at (length bytes)) _ _ (le-ltb h.at (length bytes) (omega (arith, k, q)))))

  module _ (l : at < length bytes) where
    in_flag : (h : Stand) → h.at ≡ at
        → flag bytes h ≡ pick (leb (byte_at bytes h.at) 1) (went (moved_to (h.at + 1) h)) (stopped OutOfRange h.at)
    unfolding flag
    in_flag h q = pick_true (ltb h.at (length bytes)) _ _ (lt-ltb h.at (length bytes) (omega (arith, l, q)))

    byte_here : (h : Stand) → h.at ≡ at → byte_at bytes h.at ≡ get_or bytes at 0
    byte_here h q = ap (byte_at bytes) q ∙ byte_at_lem bytes at

    pub flag_bad : {r : Read} → r ≡ Err (fault_of OutOfRange at) → 1 < get_or bytes at 0 → Reads bytes at r (flag bytes)
    flag_bad e k =
        reads_err (flag bytes) e
        (λ h q.
        ap (stopped OutOfRange) (sym q)
        ∙ sym (in_flag h q ∙ pick_false (leb (byte_at bytes h.at) 1) _ _ (lt-leb (byte_at bytes h.at) 1 (omega (arith, k, byte_here h q)))))

    pub flag_ok : get_or bytes at 0 ≤ 1 → Reads bytes at (Ok (at + 1)) (flag bytes)
    flag_ok k =
        reads_ok (flag bytes) (at + 1) (omega (arith, l))
        (λ h q.
        ap (λ (x : ℕ). went (moved_to (x + 1) h)) (sym q)
        ∙ sym (in_flag h q ∙ pick_true (leb (byte_at bytes h.at) 1) _ _ (le-leb (byte_at bytes h.at) 1 (omega (arith, k, byte_here h q)))))

  -- ---- numbers

  module _ (number_at : ℕ → Number) {x : Number} (e : x ≡ number_at at) {y : Choice} (d : y ≡ numbered (length bytes) at x) (next : Stand → ℕ → Stand → Outcome) where
    -- a number, and what comes of it
    abbrev on : Stand → Outcome
    on h = on_number bytes (number_at h.at) (next h) h

    number_here : {z : Number} → x ≡ z → (h : Stand) → h.at ≡ at → on h ≡ on_number bytes z (next h) h
    number_here f h q = ap (λ (z : Number). on_number bytes z (next h) h) (ap number_at q ∙ sym e ∙ f)

    on_ok : {v to : ℕ} → y ≡ Ok (v, to) → (h : Stand) → h.at ≡ at → on h ≡ next h v (moved_to to h)
    unfolding on_number
    on_ok f h q = number_here (numbered_ok (length bytes) at x (sym d ∙ f)) h q

    on_err : {f : Fault} → y ≡ Err f → (h : Stand) → h.at ≡ at → stopped f.why f.at ≡ on h
    on_err f h q =
        sym (number_here refl h q ∙ numbered_err bytes (next h) h x (ap (λ (p : ℕ). numbered (length bytes) p x) q ∙ sym d ∙ f))

  abbrev nothing : Stand → ℕ → Stand → Outcome
  nothing h v k = went k

  abbrev sized : Stand → ℕ → Stand → Outcome
  sized h v k = pick (is_negative v) (stopped NumberWrong h.at) (passed bytes (absolute v) k)

  module _ {x : Number} {y : Choice} (d : y ≡ numbered (length bytes) at x) where
    -- an int that nothing comes of, or that says which part
    module _ (e : x ≡ int_at bytes at) where
      abbrev part_of : List (List Row) → (List Row → Stand → Outcome) → Stand → ℕ → Stand → Outcome
      part_of ps next h v k =
          pick (not (is_negative v) && ltb (absolute v) (length ps)) (next (get_or ps (absolute v) []) k) (stopped OutOfRange h.at)

      int_within : {v to : ℕ} → y ≡ Ok (v, to) → to ≤ length bytes
      int_within {v} {to} f = int_inside bytes at v to (sym e ∙ numbered_ok (length bytes) at x (sym d ∙ f))

      pub int_ok : {v to : ℕ} → y ≡ Ok (v, to) → Reads bytes at (Ok to) (on_int bytes (λ v k. went k))
      int_ok {v} {to} f =
          reads_ok (on_int bytes (λ v k. went k)) to (int_within f) (λ h q. sym (on_ok (int_at bytes) e d nothing f h q))

      pub int_err : {f : Fault} → y ≡ Err f → {r : Read} → r ≡ Err f → Reads bytes at r (on_int bytes (λ v k. went k))
      int_err f g = reads_err (on_int bytes (λ v k. went k)) g (on_err (int_at bytes) e d nothing f)

      pub choice_err : {f : Fault} → y ≡ Err f → {r : Choice} → r ≡ Err f → Chooses bytes at r
      unfolding chosen
      choice_err f g = no_choice g (λ ps next. on_err (int_at bytes) e d (part_of ps next) f)

      module _ {v to : ℕ} (f : y ≡ Ok (v, to)) {b : Bool} (g : b ≡ is_negative v) where
        pub choice_negative : b ≡ true → {r : Choice} → r ≡ Err (fault_of OutOfRange at) → Chooses bytes at r
        unfolding chosen
        choice_negative t u =
            no_choice u
            (λ ps next h q.
            let z : (not (is_negative v) && ltb (absolute v) (length ps)) ≡ false = rw (sym g ∙ t) in
            ap (stopped OutOfRange) (sym q) ∙ sym (on_ok (int_at bytes) e d (part_of ps next) f h q ∙ pick_false _ _ _ z))

        pub choice_part : b ≡ false → {n : ℕ} → n ≡ absolute v → Chooses bytes at (Ok (n, to))
        unfolding chosen choosing
        choice_part t {n} a = record {
          says = λ ps next h q.
              let z : ltb (absolute v) (length ps) ≡ (not (is_negative v) && ltb (absolute v) (length ps)) = rw (sym g ∙ t) in
              ap (λ (y : ℕ). pick (ltb n (length ps)) (next (get_or ps n []) (moved_to to h)) (stopped OutOfRange y)) (sym q)
              ∙ ap (λ (k : ℕ). pick (ltb k (length ps)) (next (get_or ps k []) (moved_to to h)) (stopped OutOfRange h.at)) a
              ∙ ap (λ (y : Bool). pick y (next (get_or ps (absolute v) []) (moved_to to h)) (stopped OutOfRange h.at)) z
              ∙ sym (on_ok (int_at bytes) e d (part_of ps next) f h q);
          within = λ w p y. let z = same_end y in omega (arith, int_within f, z);
        }

    -- a long that nothing comes of, or that says how many bytes there are
    module _ (e : x ≡ long_at bytes at) where
      pub long_within : {v to : ℕ} → y ≡ Ok (v, to) → to ≤ length bytes
      long_within {v} {to} f = long_inside bytes at v to (sym e ∙ numbered_ok (length bytes) at x (sym d ∙ f))

      pub long_ok : {v to : ℕ} → y ≡ Ok (v, to) → Reads bytes at (Ok to) (on_long bytes (λ v k. went k))
      long_ok {v} {to} f =
          reads_ok (on_long bytes (λ v k. went k)) to (long_within f) (λ h q. sym (on_ok (long_at bytes) e d nothing f h q))

      pub long_err : {f : Fault} → y ≡ Err f → {r : Read} → r ≡ Err f → Reads bytes at r (on_long bytes (λ v k. went k))
      long_err f g = reads_err (on_long bytes (λ v k. went k)) g (on_err (long_at bytes) e d nothing f)

      pub counted_err : {f : Fault} → y ≡ Err f → {r : Read} → r ≡ Err f → Reads bytes at r (counted bytes)
      unfolding counted
      counted_err f g = reads_err (counted bytes) g (on_err (long_at bytes) e d sized f)

      module _ {v to : ℕ} (f : y ≡ Ok (v, to)) {b : Bool} (g : b ≡ is_negative v) where
        pub counted_negative : b ≡ true → {r : Read} → r ≡ Err (fault_of NumberWrong at) → Reads bytes at r (counted bytes)
        unfolding counted
        counted_negative t u =
            reads_err (counted bytes) u
            (λ h q.
            ap (stopped NumberWrong) (sym q)
            ∙ sym (on_ok (long_at bytes) e d sized f h q ∙ pick_true (is_negative v) _ _ (sym g ∙ t)))

        pub counted_pass : b ≡ false → {n : ℕ} → n ≡ absolute v → {r : Read} → Reads bytes to r (passed bytes n) → Reads bytes at r (counted bytes)
        unfolding counted moved_to
        counted_pass t {n} a {r} p = record {
          says = λ h q.
              sym (reading_moved r to h) ∙ p.says (moved_to to h) refl ∙ ap (λ (k : ℕ). passed bytes k (moved_to to h)) a
              ∙ sym (on_ok (long_at bytes) e d sized f h q ∙ pick_false (is_negative v) _ _ (sym g ∙ t));
          within = p.within;
        }

  -- ---- a block's size

  module _ {x : Number} (e : x ≡ long_at bytes at) (end : ℕ) where
    pub size_err : {f : NumberError} → x ≡ Err f → false ≡ is_size (long_at bytes at) end
    unfolding is_size
    size_err f = sym (ap (λ (z : Number). is_size z end) (sym e ∙ f))

    module _ {v to : ℕ} (f : x ≡ Ok (v, to)) {b : Bool} (g : b ≡ is_negative v) where
      size_is : is_size (long_at bytes at) end ≡ (not (is_negative v) && eqb (to + absolute v) end)
      unfolding is_size
      size_is = ap (λ (z : Number). is_size z end) (sym e ∙ f)

      pub size_negative : b ≡ true → false ≡ is_size (long_at bytes at) end
      size_negative t = sym (size_is ∙ rw (sym g ∙ t))

      module _ (t : b ≡ false) where
        size_plain : is_size (long_at bytes at) end ≡ eqb (to + absolute v) end
        size_plain = size_is ∙ rw (sym g ∙ t)

        pub size_behind : end < to → false ≡ is_size (long_at bytes at) end
        size_behind l = sym (size_plain ∙ ne_eqb (to + absolute v) end (λ z. omega (arith, l, z)))

        pub size_asked : to ≤ end → {n : ℕ} → n ≡ absolute v → eqb n (end - to) ≡ is_size (long_at bytes at) end
        size_asked l {n} a = go (ℕ_discrete n (end - to)) ∙ sym size_plain
          where
            go : Dec (n ≡ end - to) → eqb n (end - to) ≡ eqb (to + absolute v) end
            go (yes z) = eq-eqb n (end - to) z ∙ sym (eq-eqb (to + absolute v) end (omega (arith, l, a, z)))
            go (no z) = ne_eqb n (end - to) z ∙ sym (ne_eqb (to + absolute v) end (λ y. z (omega (arith, l, a, y))))

  -- ---- by its kind

  module _ (size : ℕ) {kind : Kind} {r : Read} where
    pub leaf_boolean : kind ≡ Boolean → Reads bytes at r (flag bytes) → Reads bytes at r (leaf_of bytes kind size)
    unfolding leaf_of
    leaf_boolean e p = reads_as p (λ h. rw e)

    pub leaf_int : kind ≡ Int → Reads bytes at r (on_int bytes (λ v k. went k)) → Reads bytes at r (leaf_of bytes kind size)
    unfolding leaf_of
    leaf_int e p = reads_as p (λ h. rw e)

    pub leaf_long : kind ≡ Long → Reads bytes at r (on_long bytes (λ v k. went k)) → Reads bytes at r (leaf_of bytes kind size)
    unfolding leaf_of
    leaf_long e p = reads_as p (λ h. rw e)

    pub leaf_float : kind ≡ Float → Reads bytes at r (passed bytes 4) → Reads bytes at r (leaf_of bytes kind size)
    unfolding leaf_of
    leaf_float e p = reads_as p (λ h. rw e)

    pub leaf_double : kind ≡ Double → Reads bytes at r (passed bytes 8) → Reads bytes at r (leaf_of bytes kind size)
    unfolding leaf_of
    leaf_double e p = reads_as p (λ h. rw e)

    pub leaf_bytes : kind ≡ Bytes → Reads bytes at r (counted bytes) → Reads bytes at r (leaf_of bytes kind size)
    unfolding leaf_of
    leaf_bytes e p = reads_as p (λ h. rw e)

    pub leaf_string : kind ≡ String → Reads bytes at r (counted bytes) → Reads bytes at r (leaf_of bytes kind size)
    unfolding leaf_of
    leaf_string e p = reads_as p (λ h. rw e)

    pub leaf_fixed : kind ≡ Fixed → Reads bytes at r (passed bytes size) → Reads bytes at r (leaf_of bytes kind size)
    unfolding leaf_of
    leaf_fixed e p = reads_as p (λ h. rw e)

-- ---- the kinds of the last arm, by their numbers among the variants

has : List ℕ → ℕ → Bool
has [] x = false
has (y ∷ ys) x = eqb x y || has ys x

or_true : (a b : Bool) → b ≡ true → (a || b) ≡ true
or_true true b e = refl
or_true false b e = e

one_of_has : (xs : List ℕ) (x : ℕ) → OneOf xs x → has xs x ≡ true
unfolding has
one_of_has [] x h = absurd h
one_of_has (y ∷ []) x h = rw (eq-eqb x y h)
one_of_has (y ∷ z ∷ ys) x h = ⊎_elim (λ e. rw (eq-eqb x y e)) (λ r. or_true (eqb x y) (has (z ∷ ys) x) (one_of_has (z ∷ ys) x r)) h

abbrev pub others : List ℕ
others = 0 ∷ 8 ∷ 9 ∷ 10 ∷ 11 ∷ 12 ∷ 13 ∷ 15 ∷ 16 ∷ 17 ∷ 18 ∷ []

leaf_other : (bytes : List ℕ) (size : ℕ) (h : Stand) (k : Kind) → has others (tag_of the_type k) ≡ true → went h ≡ leaf_of bytes k size h
unfolding has leaf_of
leaf_other bytes size h Null e = refl
leaf_other bytes size h Boolean e = never e
leaf_other bytes size h Int e = never e
leaf_other bytes size h Long e = never e
leaf_other bytes size h Float e = never e
leaf_other bytes size h Double e = never e
leaf_other bytes size h Bytes e = never e
leaf_other bytes size h String e = never e
leaf_other bytes size h Reference e = refl
leaf_other bytes size h Array e = refl
leaf_other bytes size h Map e = refl
leaf_other bytes size h Union e = refl
leaf_other bytes size h Record e = refl
leaf_other bytes size h Enum e = refl
leaf_other bytes size h Fixed e = never e
leaf_other bytes size h Field e = refl
leaf_other bytes size h Symbol e = refl
leaf_other bytes size h Alias e = refl
leaf_other bytes size h FieldAlias e = refl

pub leaf_none : (bytes : List ℕ) (at : ℕ) → at ≤ length bytes → (size : ℕ) (k : Kind) → OneOf others (tag_of the_type k) → Reads bytes at (Ok at) (leaf_of bytes k size)
unfolding moved_to
leaf_none bytes at l size k o =
    reads_ok bytes at (leaf_of bytes k size) at l
    (λ h q. ap (λ (p : ℕ). went (moved_to p h)) (sym q) ∙ leaf_other bytes size h k (one_of_has others (tag_of the_type k) o))

-- the kinds that no other arm of a visit takes: null, the other primitives, fixed, symbols and aliases
abbrev pub plains : List ℕ
plains = 0 ∷ 1 ∷ 2 ∷ 3 ∷ 4 ∷ 5 ∷ 6 ∷ 7 ∷ 14 ∷ 16 ∷ 17 ∷ 18 ∷ []

plain_told : (k : Kind) → has plains (tag_of the_type k) ≡ true → is_leaf k ≡ true
unfolding has is_leaf is_kind
plain_told Null e = refl
plain_told Boolean e = refl
plain_told Int e = refl
plain_told Long e = refl
plain_told Float e = refl
plain_told Double e = refl
plain_told Bytes e = refl
plain_told String e = refl
plain_told Reference e = never e
plain_told Array e = never e
plain_told Map e = never e
plain_told Union e = never e
plain_told Record e = never e
plain_told Enum e = never e
plain_told Fixed e = refl
plain_told Field e = never e
plain_told Symbol e = refl
plain_told Alias e = refl
plain_told FieldAlias e = refl

pub plain_kind : (k : Kind) → OneOf plains (tag_of the_type k) → is_leaf k ≡ true
plain_kind k o = plain_told k (one_of_has plains (tag_of the_type k) o)
