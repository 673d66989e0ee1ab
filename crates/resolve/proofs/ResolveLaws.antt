-- Names over rows: what is defined among rows in two parts, the turns of the loops, and faults of rows in two parts.
-- Assumes nothing.
use mathlib.Core.Path.{◌≡◌, refl, sym, ap, ◌∙◌}
use mathlib.Core.Bool.{Bool, true, false, cond, not, ◌&&◌, ◌||◌, or_assoc}
use mathlib.Core.List.{List, [], ◌∷◌, ◌++◌, append_assoc, append-nil}
use Prim.Native.Nat.{ℕ, ◌+◌, ◌-◌, ◌<◌, ◌≤◌}
use native.Mathlib.Nat.{sub-zero}
use native.Mathlib.Omega.{arith}
use Rattle.std.specs.Prelude.{Ok, Err}
use Rattle.answer.specs.declared.refusal.Fault.{Fault}
use Rattle.answer.specs.declared.refusal.Why.TheVariants.{DefinedAlready, ReferenceUnknown}
use Rattle.row.specs.Rows.{Row}
use Rattle.row.specs.Sets.{rows_from}
use Rattle.row.specs.Memory.{entry_at, text_at, row_at}
use Rattle.row.specs.declared.kind.Kind.TheVariants.{Reference}
use Rattle.resolve.specs.Kinds.{is_kind, is_definition, is_named}
use Rattle.resolve.specs.Rules.{some}
use Rattle.resolve.specs.Resolve.{Resolution, defines, is_defined, definition_in, fault_of, or_else, fault_in}
use Rattle.resolve.proofs.MemoryLaws.{rows_none, rows_next, rows_end, rows_left_lem, rows_done, rows_all, rows_snoc}

-- ---- what is defined

pub some_append : (test : Row → Bool) (a b : List Row) → some test (a ++ b) ≡ (some test a || some test b)
unfolding some
some_append test [] b = refl
some_append test (r ∷ a) b = rw (some_append test a b) (sym (or_assoc (test r) (some test a) (some test b)))

pub defined_append : (a b : List Row) (name : List ℕ) → is_defined (a ++ b) name ≡ (is_defined a name || is_defined b name)
unfolding is_defined
defined_append a b name = some_append (defines name) a b

-- ---- the turns of is_defined

pub defined_start : (m : List ℕ) (s n : ℕ) (name : List ℕ) → is_defined (rows_from m n s) name ≡ is_defined (rows_from m (s + n - s) s) name
defined_start m s n name = let e : s + n - s ≡ n = omega arith in rw e

module _ (m : List ℕ) (e i : ℕ) (name : List ℕ) (x : Bool) (inv : x ≡ is_defined (rows_from m (e - i) i) name) where
  pub defined_hit : i < e → defines name (row_at m i) ≡ true → true ≡ x
  unfolding is_defined some
  defined_hit l h = sym (inv ∙ rw (rows_next m i e l, h))

  pub defined_more : i < e → defines name (row_at m i) ≡ false → x ≡ is_defined (rows_from m (e - (i + 1)) (i + 1)) name
  unfolding is_defined some
  defined_more l h = inv ∙ rw (rows_next m i e l, h)

  pub defined_end : e ≤ i → false ≡ x
  unfolding is_defined some
  defined_end l = sym (inv ∙ rw (rows_end m i e l))

-- ---- the turns of definition_of

pub definition_start : (m : List ℕ) (n : ℕ) (name : List ℕ) → definition_in name (rows_from m n 0) ≡ definition_in name (rows_from m (n - 0) 0)
definition_start m n name = rw sub-zero

module _ (m : List ℕ) (n i : ℕ) (name : List ℕ) (x : List Row) (inv : x ≡ definition_in name (rows_from m (n - i) i)) where
  module _ (l : i < n) {s : List ℕ} (e : s ≡ name) {b : Bool} (f : b ≡ defines s (row_at m i)) where
    pub definition_hit : b ≡ true → rows_from m (n - i) i ≡ x
    unfolding definition_in
    definition_hit h = sym (inv ∙ rw (rows_next m i n l, ← e, ← f, h))

    pub definition_more : b ≡ false → x ≡ definition_in name (rows_from m (n - (i + 1)) (i + 1))
    unfolding definition_in
    definition_more h = inv ∙ rw (rows_next m i n l, ← e, ← f, h) (rw e)

  pub definition_end : n ≤ i → rows_from m (n - n) n ≡ x
  unfolding definition_in
  definition_end l = rows_end m n n (omega arith) ∙ sym (inv ∙ rw (rows_end m i n l))

-- ---- one row's fault

pub fault_is : (earlier : List Row) (m : List ℕ) (i : ℕ) (known : Bool) (p : ℕ) → known ≡ is_defined earlier (text_at m i) → p ≡ (entry_at m i).position
    → cond (is_definition (entry_at m i).kind && known) (Err (record { why = DefinedAlready; at = p }))
    (cond (is_kind Reference (entry_at m i).kind && not known) (Err (record { why = ReferenceUnknown; at = p })) (Ok tt))
    ≡ fault_of earlier (row_at m i)
unfolding fault_of
fault_is earlier m i known p e f = rw (e, f)

pub fault_none : (earlier : List Row) (m : List ℕ) (i : ℕ) → is_named (entry_at m i).kind ≡ false → Ok tt ≡ fault_of earlier (row_at m i)
unfolding fault_of is_named
fault_none earlier m i e = go (is_definition (entry_at m i).kind) (is_kind Reference (entry_at m i).kind) _ _ _ _ e
  where
    go : (d r x y : Bool) (f g : Resolution) → (d || r) ≡ false → Ok tt ≡ cond (d && x) f (cond (r && y) g (Ok tt))
    go false false x y f g h = refl
    go true r x y f g h = cc
    go false true x y f g h = cc

-- ---- the turns of first_fault

pub fault_start : (base : List Row) (f : List ℕ) (s n : ℕ) → fault_in base (rows_from f n s) ≡ fault_in (base ++ rows_from f 0 s) (rows_from f (n - 0) (s + 0))
fault_start base f s n = rw (rows_none, append-nil, rows_all)

module _ (base : List Row) (f : List ℕ) (s n i : ℕ) (x : Resolution) (inv : x ≡ fault_in (base ++ rows_from f i s) (rows_from f (n - i) (s + i))) where
  pub fault_hit : i < n → (r : Resolution) (e : Fault) → r ≡ fault_of (base ++ rows_from f i s) (row_at f (s + i)) → r ≡ Err e → Err e ≡ x
  unfolding fault_in
  fault_hit l r e p q = sym (inv ∙ rw (rows_left_lem f s n i l, ← p, q))

  pub fault_more : i < n → (r : Resolution) → r ≡ fault_of (base ++ rows_from f i s) (row_at f (s + i)) → r ≡ Ok tt
      → x ≡ fault_in (base ++ rows_from f (i + 1) s) (rows_from f (n - (i + 1)) (s + (i + 1)))
  unfolding fault_in
  fault_more l r p q =
      inv
      ∙ rw (rows_left_lem f s n i l, ← p, q)
      (ap (λ (y : List Row). fault_in y (rows_from f (n - (i + 1)) (s + (i + 1)))) (append_assoc base (rows_from f i s) (row_at f (s + i) ∷ []) ∙ ap (λ (y : List Row). base ++ y) (sym (rows_snoc f s i))))

  pub fault_end : n ≤ i → Ok tt ≡ x
  unfolding fault_in
  fault_end l = sym (inv ∙ rw (rows_done f s n i l))

-- ---- faults of rows in two parts

pub fault_append : (base a b : List Row) → fault_in base (a ++ b) ≡ or_else (fault_in base a) (fault_in (base ++ a) b)
unfolding fault_in
fault_append base [] b = rw append-nil
fault_append base (r ∷ a) b =
    rw (fault_append (base ++ (r ∷ [])) a b, append_assoc base (r ∷ []) a) (sym (or_else_assoc (fault_of base r) (fault_in (base ++ (r ∷ [])) a) (fault_in (base ++ (r ∷ a)) b)))
  where
    or_else_assoc : (a b c : Resolution) → or_else (or_else a b) c ≡ or_else a (or_else b c)
    or_else_assoc (Ok _) b c = refl
    or_else_assoc (Err f) b c = refl
