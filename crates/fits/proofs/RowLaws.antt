-- Types by the numbers of their rows: the parts of a row one after the other, a field's type, symbols.
-- Assumes nothing.
use mathlib.Core.Path.{◌≡◌, sym, ap, ◌∙◌}
use mathlib.Core.Bool.{Bool, true, false}
use mathlib.Core.List.{List, [], ◌∷◌}
use Prim.Native.Nat.{ℕ, ◌+◌, ◌<◌, ◌≤◌}
use native.Mathlib.Omega.{arith}
use borrow.Author.Tests.{eq-eqb, ne_eqb, lt-ltb, le-ltb, le-leb, lt-leb}
use Rattle.ground.specs.Bytes.{same}
use Rattle.name.specs.Name.{every}
use Rattle.row.specs.Rows.{Row}
use Rattle.row.specs.Memory.{entry_at, text_at, row_at}
use Rattle.row.specs.declared.kind.Kind.TheVariants.{Symbol, FieldAlias}
use Rattle.resolve.specs.Kinds.{is_kind}
use Rattle.resolve.proofs.MemoryLaws.{rows_next, rows_end}
use Rattle.resolve.specs.Rules.{some}
use Rattle.fits.specs.Types.{parts_under, type_of}
use Rattle.fits.specs.Fits.{is_symbol}
use Rattle.fits.specs.Steps.{type_at, parts_from}

-- a row directly under one of depth d, and the rows behind it
under_here : (d : ℕ) (r : Row) (rows : List Row) → r.depth ≡ d + 1 → parts_under d (r ∷ rows) ≡ (r ∷ rows) ∷ parts_under d rows
unfolding parts_under
under_here d r rows e = rw (lt-leb r.depth d (omega arith), eq-eqb r.depth (d + 1) e)

module _ (m : List ℕ) (n i : ℕ) where
  -- ---- the parts of a row of depth d

  module _ (d : ℕ) where
    pub parts_first : i < n → parts_from m n d i ≡ type_at m n i ∷ parts_under d (type_at m n (i + 1))
    unfolding parts_from
    parts_first l = rw (lt-ltb i n l)

    pub parts_none : n ≤ i → parts_from m n d i ≡ []
    unfolding parts_from
    parts_none l = rw (le-ltb i n l)

  -- from row i on, what is left is the whole
  module _ (d : ℕ) {x : List (List Row)} (inv : parts_under d (type_at m n i) ≡ x) where
    pub part_end : n ≤ i → parts_from m n d n ≡ x
    unfolding parts_from parts_under
    part_end l = rw (le-ltb n n (omega arith)) (sym (ap (parts_under d) (rows_end m i n l)) ∙ inv)

    module _ (l : i < n) {y : ℕ} (e : y ≡ (entry_at m i).depth) where
      pub part_stop : y ≤ d → parts_from m n d n ≡ x
      unfolding parts_from parts_under
      part_stop h = rw (le-ltb n n (omega arith)) (sym (ap (parts_under d) (rows_next m i n l) ∙ rw (← e, le-leb y d h)) ∙ inv)

      module _ (h : d < y) where
        pub part_here : y ≡ d + 1 → parts_from m n d i ≡ x
        part_here f =
            let rest : List Row = type_at m n (i + 1) in
            let z = rows_next m i n l in
            parts_first d l ∙ ap (λ (k : List Row). k ∷ parts_under d rest) z
            ∙ sym (under_here d (row_at m i) rest (sym e ∙ f)) ∙ sym (ap (parts_under d) z) ∙ inv

        pub part_deeper : (y ≡ d + 1 → ⊥) → parts_under d (type_at m n (i + 1)) ≡ x
        unfolding parts_under
        part_deeper f = sym (ap (parts_under d) (rows_next m i n l) ∙ rw (← e, lt-leb y d h, ne_eqb y (d + 1) f)) ∙ inv

  -- a test of some part, or of every part: the answer for those that are left is the answer
  module _ (d : ℕ) (test : List Row → Bool) {x : Bool} where
    module _ (inv : some test (parts_from m n d i) ≡ x) where
      pub some_end : n ≤ i → false ≡ x
      unfolding some
      some_end l = sym (ap (some test) (parts_none d l)) ∙ inv

      module _ (l : i < n) {b : Bool} (f : b ≡ test (type_at m n i)) where
        pub some_found : b ≡ true → true ≡ x
        unfolding some
        some_found g = sym (ap (some test) (parts_first d l) ∙ rw (← f, g)) ∙ inv

        pub some_on : b ≡ false → (j : ℕ) → parts_from m n d j ≡ parts_under d (type_at m n (i + 1)) → some test (parts_from m n d j) ≡ x
        unfolding some
        some_on g j e = ap (some test) e ∙ sym (ap (some test) (parts_first d l) ∙ rw (← f, g)) ∙ inv

    module _ (inv : every test (parts_from m n d i) ≡ x) where
      pub every_end : n ≤ i → true ≡ x
      unfolding every
      every_end l = sym (ap (every test) (parts_none d l)) ∙ inv

      module _ (l : i < n) {b : Bool} (f : b ≡ test (type_at m n i)) where
        pub every_bad : b ≡ false → false ≡ x
        unfolding every
        every_bad g = sym (ap (every test) (parts_first d l) ∙ rw (← f, g)) ∙ inv

        pub every_on : b ≡ true → (j : ℕ) → parts_from m n d j ≡ parts_under d (type_at m n (i + 1)) → every test (parts_from m n d j) ≡ x
        unfolding every
        every_on g j e = ap (every test) e ∙ sym (ap (every test) (parts_first d l) ∙ rw (← f, g)) ∙ inv

  -- ---- a field's type

  module _ {x : List Row} (inv : type_of (type_at m n i) ≡ x) where
    pub type_end : n ≤ i → type_at m n n ≡ x
    unfolding type_of
    type_end l = rows_end m n n (omega arith) ∙ sym (ap type_of (rows_end m i n l)) ∙ inv

    module _ (l : i < n) {b : Bool} (e : b ≡ is_kind FieldAlias (entry_at m i).kind) where
      pub type_here : b ≡ false → type_at m n i ≡ x
      unfolding type_of
      type_here f = rows_next m i n l ∙ sym (ap type_of (rows_next m i n l) ∙ rw (← e, f)) ∙ inv

      pub type_on : b ≡ true → type_of (type_at m n (i + 1)) ≡ x
      unfolding type_of
      type_on f = sym (ap type_of (rows_next m i n l) ∙ rw (← e, f)) ∙ inv

  -- ---- a symbol

  module _ (s : List ℕ) (l : i < n) {b : Bool} (e : b ≡ is_kind Symbol (entry_at m i).kind) where
    pub symbol_text : b ≡ true → {w : List ℕ} → w ≡ text_at m i → {x : Bool} → x ≡ same s w → x ≡ is_symbol s (type_at m n i)
    unfolding is_symbol
    symbol_text f g h = h ∙ rw (rows_next m i n l, ← e, f, g)

    pub symbol_none : b ≡ false → false ≡ is_symbol s (type_at m n i)
    unfolding is_symbol
    symbol_none f = rw (rows_next m i n l, ← e, f)
