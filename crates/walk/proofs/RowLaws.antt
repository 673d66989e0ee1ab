-- Types and their parts by the numbers of their rows: the first part from a row on, a part by its number, what is inside a type.
-- Assumes nothing.
use mathlib.Core.Path.{◌≡◌, sym, ap, subst, ◌∙◌}
use mathlib.Core.Bool.{Bool, true, false}
use mathlib.Core.List.{List, [], ◌∷◌}
use Prim.Native.Nat.{ℕ, suc, ◌+◌, ◌<◌, ◌≤◌}
use native.Mathlib.Omega.{arith}
use native.Mathlib.Decide.{dec_lt}
use lib.Dec.{ltb}
use lib.ListN.{length, get_or}
use borrow.Author.Tests.{eq-eqb, ne_eqb, lt-ltb, le-ltb}
use Rattle.row.specs.Rows.{Row}
use Rattle.row.specs.Memory.{entry_at, row_at}
use Rattle.row.specs.declared.kind.Kind.TheVariants.{Map}
use Rattle.resolve.specs.Kinds.{is_kind}
use Rattle.resolve.proofs.MemoryLaws.{rows_next, rows_end}
use Rattle.walk.specs.Parts.{is_part, parts_at, parts_of, first, inside, is_map}
use Rattle.walk.specs.Steps.{type_at, parts_from, FirstPart}

-- ---- parts of a depth among rows

module _ (d : ℕ) (r : Row) (rows : List Row) where
  at_end : r.depth < d → parts_at d (r ∷ rows) ≡ []
  unfolding parts_at
  at_end l = rw (lt-ltb r.depth d l)

  at_part : r.depth ≡ d → is_part r.kind ≡ true → parts_at d (r ∷ rows) ≡ (r ∷ rows) ∷ parts_at d rows
  unfolding parts_at
  at_part e p = rw (le-ltb r.depth d (omega arith), eq-eqb r.depth d e, p)

  at_alias : r.depth ≡ d → is_part r.kind ≡ false → parts_at d (r ∷ rows) ≡ parts_at d rows
  unfolding parts_at
  at_alias e p = rw (le-ltb r.depth d (omega arith), eq-eqb r.depth d e, p)

  at_deeper : d ≤ r.depth → (r.depth ≡ d → ⊥) → parts_at d (r ∷ rows) ≡ parts_at d rows
  unfolding parts_at
  at_deeper l e = rw (le-ltb r.depth d l, ne_eqb r.depth d e)

ltb_suc : (a b : ℕ) → ltb a b ≡ ltb (suc a) (suc b)
ltb_suc a b = go (dec_lt a b)
  where
    go : Dec (a < b) → ltb a b ≡ ltb (suc a) (suc b)
    go (yes l) = lt-ltb a b l ∙ sym (lt-ltb (suc a) (suc b) (omega (arith, l)))
    go (no l) = le-ltb a b (omega (arith, l)) ∙ sym (le-ltb (suc a) (suc b) (omega (arith, l)))

-- ---- the first n rows of memory

module _ (m : List ℕ) (n : ℕ) where
  pub parts_first : (d i : ℕ) → i < n → parts_from m n d i ≡ type_at m n i ∷ parts_at d (type_at m n (i + 1))
  unfolding parts_from
  parts_first d i l = rw (lt-ltb i n l)

  pub parts_none : (d i : ℕ) → n ≤ i → parts_from m n d i ≡ []
  unfolding parts_from
  parts_none d i l = rw (le-ltb i n l)

  -- no part is left
  no_part : (d s : ℕ) → parts_at d (type_at m n s) ≡ [] → FirstPart m n d s n
  no_part d s e = record { below = omega arith; deep = λ l. absurd (omega (arith, l)); parts = parts_none d n (omega arith) ∙ sym e }

  -- from row i on, what is left is the whole
  module _ (d s i : ℕ) (inv : parts_at d (type_at m n i) ≡ parts_at d (type_at m n s)) where
    pub part_end : n ≤ i → FirstPart m n d s n
    unfolding parts_at
    part_end l = no_part d s (sym inv ∙ ap (parts_at d) (rows_end m i n l))

    module _ (l : i < n) {y : ℕ} (e : y ≡ (entry_at m i).depth) where
      pub part_stop : y < d → FirstPart m n d s n
      part_stop h =
          let a : (entry_at m i).depth < d = omega (arith, e, h) in
          no_part d s (sym inv ∙ ap (parts_at d) (rows_next m i n l) ∙ at_end d (row_at m i) (type_at m n (i + 1)) a)

      module _ (f : y ≡ d) {b : Bool} (p : b ≡ is_part (entry_at m i).kind) where
        pub part_here : b ≡ true → FirstPart m n d s i
        part_here g = record {
          below = omega (arith, l);
          deep = λ k. sym e ∙ f;
          parts =
              let rest : List Row = type_at m n (i + 1) in
              let z = rows_next m i n l in
              parts_first d i l ∙ ap (λ (k : List Row). k ∷ parts_at d rest) z
              ∙ sym (at_part d (row_at m i) rest (sym e ∙ f) (sym p ∙ g)) ∙ sym (ap (parts_at d) z) ∙ inv;
        }

        pub part_alias : b ≡ false → parts_at d (type_at m n (i + 1)) ≡ parts_at d (type_at m n s)
        part_alias g =
            sym (ap (parts_at d) (rows_next m i n l) ∙ at_alias d (row_at m i) (type_at m n (i + 1)) (sym e ∙ f) (sym p ∙ g)) ∙ inv

      pub part_deeper : d ≤ y → (y ≡ d → ⊥) → parts_at d (type_at m n (i + 1)) ≡ parts_at d (type_at m n s)
      part_deeper h f =
          let a : d ≤ (entry_at m i).depth = omega (arith, e, h) in
          sym (ap (parts_at d) (rows_next m i n l) ∙ at_deeper d (row_at m i) (type_at m n (i + 1)) a (λ g. f (e ∙ g))) ∙ inv

  -- the same depth
  pub part_depth : {d e s j : ℕ} → d ≡ e → FirstPart m n d s j → FirstPart m n e s j
  part_depth {s = s} {j = j} q p = subst (λ (x : ℕ). FirstPart m n x s j) q p

  -- ---- what is inside a type

  pub map_here : (i : ℕ) → i < n → {b : Bool} → b ≡ is_kind Map (entry_at m i).kind → b ≡ is_map (type_at m n i)
  unfolding is_map
  map_here i l e = e ∙ sym (ap is_map (rows_next m i n l))

  pub map_none : (i : ℕ) → n ≤ i → false ≡ is_map (type_at m n i)
  unfolding is_map
  map_none i l = sym (ap is_map (rows_end m i n l))

  first_at : (d i : ℕ) → i ≤ n → first (parts_from m n d i) ≡ type_at m n i
  unfolding first
  first_at d i h = go (dec_lt i n)
    where
      go : Dec (i < n) → first (parts_from m n d i) ≡ type_at m n i
      go (yes l) = ap first (parts_first d i l)
      go (no l) = let k : n ≤ i = omega (arith, l) in ap first (parts_none d i k) ∙ sym (rows_end m i n k)

  pub inside_here : (i j : ℕ) → i < n → FirstPart m n ((entry_at m i).depth + 1) (i + 1) j → type_at m n j ≡ inside (type_at m n i)
  unfolding inside parts_of
  inside_here i j l p =
      let d = (entry_at m i).depth + 1 in
      sym (first_at d j p.below) ∙ ap first p.parts ∙ sym (ap inside (rows_next m i n l))

  pub inside_none : (i : ℕ) → n ≤ i → type_at m n n ≡ inside (type_at m n i)
  unfolding inside
  inside_none i l = rows_end m n n (omega arith) ∙ sym (ap inside (rows_end m i n l))

  -- ---- a part by its number

  -- the part with a number, of the parts d deep from row s on, has `left` before it, of those from row r on
  pub record Counting (d s number r left : ℕ) : Type 0 where
    pub below : r ≤ n
    pub deep : r < n → (entry_at m r).depth ≡ d
    pub part : get_or (parts_from m n d r) left [] ≡ get_or (parts_at d (type_at m n s)) number []
    pub room : ltb left (length (parts_from m n d r)) ≡ ltb number (length (parts_at d (type_at m n s)))

  -- row r holds the part with the number, if there is one
  abbrev pub Numbered : ℕ → ℕ → ℕ → ℕ → Type 0
  Numbered d s number r =
      (type_at m n r ≡ get_or (parts_at d (type_at m n s)) number []) × (ltb r n ≡ ltb number (length (parts_at d (type_at m n s))))

  pub count_start : (d s number r : ℕ) → FirstPart m n d s r → Counting d s number r number
  count_start d s number r p = record {
    below = p.below;
    deep = p.deep;
    part = ap (λ (ps : List (List Row)). get_or ps number []) p.parts;
    room = ap (λ (ps : List (List Row)). ltb number (length ps)) p.parts;
  }

  module _ {d s number r left : ℕ} (inv : Counting d s number r left) where
    pub count_end : n ≤ r → Numbered d s number n
    count_end l =
        let e = parts_none d r l in (
          rows_end m n n (omega arith) ∙ sym (ap (λ (ps : List (List Row)). get_or ps left []) e) ∙ inv.part,
          le-ltb n n (omega arith) ∙ sym (ap (λ (ps : List (List Row)). ltb left (length ps)) e ∙ le-ltb left 0 (omega arith)) ∙ inv.room,
        )

    module _ (l : r < n) where
      pub count_here : left ≡ 0 → Numbered d s number r
      count_here z =
          let e = parts_first d r l in
          let more : List (List Row) = parts_at d (type_at m n (r + 1)) in (
            sym (ap (λ (k : ℕ). get_or (parts_from m n d r) k []) z ∙ ap (λ (ps : List (List Row)). get_or ps 0 []) e) ∙ inv.part,
            lt-ltb r n l
                ∙ sym (ap (λ (k : ℕ). ltb k (length (parts_from m n d r))) z ∙ ap (λ (ps : List (List Row)). ltb 0 (length ps)) e ∙ lt-ltb 0 (suc (length more)) (omega arith))
                ∙ inv.room,
          )

      pub count_on : {after : ℕ} → left ≡ suc after → (q : ℕ) → FirstPart m n (entry_at m r).depth (r + 1) q → Counting d s number q after
      count_on {after} e q p =
          let f : (entry_at m r).depth ≡ d = inv.deep l in
          let g : parts_from m n d q ≡ parts_at d (type_at m n (r + 1)) = rw (← f) p.parts in
          let h : parts_from m n d r ≡ type_at m n r ∷ parts_from m n d q =
          parts_first d r l ∙ ap (λ (ps : List (List Row)). type_at m n r ∷ ps) (sym g) in
          record {
            below = p.below;
            deep = λ k. p.deep k ∙ f;
            part =
                sym (ap (λ (k : ℕ). get_or (parts_from m n d r) k []) e ∙ ap (λ (ps : List (List Row)). get_or ps (suc after) []) h) ∙ inv.part;
            room =
                ltb_suc after (length (parts_from m n d q))
                ∙ sym (ap (λ (k : ℕ). ltb k (length (parts_from m n d r))) e ∙ ap (λ (ps : List (List Row)). ltb (suc after) (length ps)) h)
                ∙ inv.room;
          }

    -- none is left before it
    pub count_done : left ≡ 0 → Numbered d s number r
    count_done z = go (dec_lt r n)
      where
        go : Dec (r < n) → Numbered d s number r
        go (yes l) = count_here l z
        go (no l) = let b = inv.below in let e : r ≡ n = omega (arith, l) in subst (λ (x : ℕ). Numbered d s number x) (sym e) (count_end (omega (arith, l)))
