-- In a text whose scan is whole every element of an array and every member's value is such a value again; the elements end at the
-- array's `]` and the members at the object's `}`.
-- Assumes nothing.
use Rattle.std.specs.Prelude.{Some, None}
use mathlib.Core.Path.{◌≡◌, refl, sym, ap, ◌∙◌, subst}
use mathlib.Core.Bool.{Bool, true, false, cond, ◌&&◌}
use mathlib.Core.List.{List, ◌∷◌}
use Prim.Native.Nat.{ℕ, suc, ◌+◌}
use native.Mathlib.Omega.{arith}
use lib.Dec.{eqb, ltb}
use lib.ListN.{length, drop}
use lib.Seq.{drop-drop}
use borrow.Author.Tests.{eqb-true}
use Rattle.std.specs.Prelude.{Ok}
use Rattle.answer.specs.declared.refusal.Why.TheVariants.{NestedTooDeep}
use Rattle.json_scan.specs.Json.{Mode, Stack, Move, Bracket, go, die, deepest, is_space, square, brace, as_key, plain, val, first, done, key0, key, colon, str, opens, begin, one, spaced, step, run}
use Rattle.json_scan.specs.Meets.{run_at}
use Rattle.ground.specs.Bytes.{byte_at}
use Rattle.ground.proofs.Laws.{and_intro}
use Rattle.view.specs.Values.{skip_of, shape_of, is_value, starts_value}
use Rattle.view.specs.Ends.{mode_after, depth_after, at_rest, to_rest, closing_of, is_block, end_of}
use Rattle.view.specs.Elements.{value_from, first_element, next_element, unroll, elements_at, elements}
use Rattle.view.specs.Members.{colon_of, value_of, is_member, key_from, first_key, key_behind, key_after, keys_at, member_of, members_at, member}
use Rattle.view.proofs.Laws.{All, all_on, all_map, member_all}
use Rattle.viewed.proofs.Machine.{never}
use Rattle.viewed.proofs.Blocks.{Lives, lives, run_lives, string_closes, closes_later}
use Rattle.viewed.proofs.Literals.{gone}
use Rattle.viewed.proofs.Values.{went}
use Rattle.viewed.proofs.Scanned.{Scanned, drop_here, more, at_lives, alike, skips, solid, value_here, value_from_lem, behind}

-- ---- the byte that decides
module _ (t : List ℕ) (p : ℕ) where
  -- the bracket opens
  opened : (k : Stack) (c : ℕ) (x : Bracket) (m : Mode) → step val c k ≡ opens x m k → byte_at t p ≡ c → Scanned t p k → run_at t m (x ∷ k) (p + 1) ≡ Ok tt
  opened k c x m o e s =
      go1 (ltb (length k) deepest) (subst (λ (y : Move). Lives y (λ m' κ'. run_at t m' κ' (p + 1))) (ap (λ (b : ℕ). step val b k) e ∙ o) (at_lives t p val k (more t p val k refl s.on) s.on))
    where
      go1 : (y : Bool) → Lives (cond y (go m (x ∷ k)) (die NestedTooDeep)) (λ m' κ'. run_at t m' κ' (p + 1)) → run_at t m (x ∷ k) (p + 1) ≡ Ok tt
      go1 true (lives m' κ' q w) = sym (went (λ m'' κ''. run_at t m'' κ'' (p + 1)) q) ∙ w
      go1 false (lives m' κ' q w) = gone q

  -- one byte of a kind
  only : (m : Mode) (κ : Stack) (y : Bool) → Lives (one y m κ) (λ m' κ'. run_at t m' κ' (p + 1)) → (y ≡ true) × (run_at t m κ (p + 1) ≡ Ok tt)
  only m κ true (lives m' κ' q w) = (refl, sym (went (λ m'' κ''. run_at t m'' κ'' (p + 1)) q) ∙ w)
  only m κ false (lives m' κ' q w) = gone q

  -- or the bracket's end
  shut_or : (m : Mode) (κ κ' : Stack) (x y : Bool) → Lives (cond x (go done κ) (one y m κ')) (λ m'' κ''. run_at t m'' κ'' (p + 1))
      → x ≡ false → (y ≡ true) × (run_at t m κ' (p + 1) ≡ Ok tt)
  shut_or m κ κ' true y l h = never (sym h)
  shut_or m κ κ' false y l h = only m κ' y l

  found : (q : ℕ) → starts_value (byte_at t (skip_of t q)) ≡ true → value_from t q ≡ Some (skip_of t q)
  unfolding value_from
  found q h = rw h

same_spot : {p q : ℕ} → Some p ≡ Some q → p ≡ q
same_spot h = cc

nowhere : {A : Type 0} {q : ℕ} → Some q ≡ None → A
nowhere h = let z : ◌≡◌ {A = ℕ} 0 1 = cc in absurd (omega arith)

somewhere : {A : Type 0} {q : ℕ} → None ≡ Some q → A
somewhere h = let z : ◌≡◌ {A = ℕ} 0 1 = cc in absurd (omega arith)

unspaced : (m : Mode) (k : Stack) (b : ℕ) (x : Move) → is_space b ≡ false → spaced m k b x ≡ x
unspaced m k b x n = ap (λ (y : Bool). cond y (go m k) x) n

-- ---- arrays
module _ (t : List ℕ) (k : Stack) where
  module _ (p : ℕ) (e : byte_at t p ≡ 91) (s : Scanned t p k) where
    first_on : run_at t first (square ∷ k) (skip_of t (p + 1)) ≡ Ok tt
    first_on = skips first (λ b κ i. rw i) (square ∷ k) t (p + 1) (opened t p k 91 square first refl e s)

    -- a first element, or the closing bracket
    first_value : (eqb (byte_at t (skip_of t (p + 1))) 93 ≡ false) → Scanned t (skip_of t (p + 1)) (square ∷ k)
    first_value h =
        let q = skip_of t (p + 1) in
        let n = solid t (p + 1) in
        let l = more t q first (square ∷ k) refl first_on in
        value_here t (square ∷ k) q n (alike t q first val (square ∷ k) l (unspaced first (square ∷ k) (byte_at t q) _ n ∙ ap (λ (y : Bool). cond y (go done k) (begin (byte_at t q) (square ∷ k))) h ∙ sym (unspaced val (square ∷ k) (byte_at t q) _ n)) first_on)

    no_value : eqb (byte_at t (skip_of t (p + 1))) 93 ≡ true → value_from t (p + 1) ≡ None
    unfolding value_from shape_of is_value
    no_value h = rw (eqb-true (byte_at t (skip_of t (p + 1))) 93 h)

    pub first_scanned : (q : ℕ) → first_element t p ≡ Some q → Scanned t q (square ∷ k)
    unfolding first_element
    first_scanned q h = go1 (eqb (byte_at t (skip_of t (p + 1))) 93) refl (sym (rw (e)) ∙ h)
      where
        go1 : (x : Bool) → eqb (byte_at t (skip_of t (p + 1))) 93 ≡ x → value_from t (p + 1) ≡ Some q → Scanned t q (square ∷ k)
        go1 true i g = somewhere (sym (no_value i) ∙ g)
        go1 false i g = subst (λ (x : ℕ). Scanned t x (square ∷ k)) (same_spot (sym (found t p (p + 1) (first_value i).value) ∙ g)) (first_value i)

    pub first_closes : first_element t p ≡ None → byte_at t (skip_of t (p + 1)) ≡ 93
    unfolding first_element
    first_closes h = go1 (eqb (byte_at t (skip_of t (p + 1))) 93) refl (sym (rw (e)) ∙ h)
      where
        go1 : (x : Bool) → eqb (byte_at t (skip_of t (p + 1))) 93 ≡ x → value_from t (p + 1) ≡ None → byte_at t (skip_of t (p + 1)) ≡ 93
        go1 true i g = eqb-true (byte_at t (skip_of t (p + 1))) 93 i
        go1 false i g = nowhere (sym (found t p (p + 1) (first_value i).value) ∙ g)

  module _ (p : ℕ) (s : Scanned t p (square ∷ k)) where
    after_on : Lives (cond (eqb (byte_at t (skip_of t (end_of t p))) 93) (go done k) (one (eqb (byte_at t (skip_of t (end_of t p))) 44) val (square ∷ k))) (λ m' κ'. run_at t m' κ' (skip_of t (end_of t p) + 1))
    after_on =
        let q = skip_of t (end_of t p) in
        let b = behind t (square ∷ k) s in
        subst (λ (y : Move). Lives y (λ m' κ'. run_at t m' κ' (q + 1))) (unspaced done (square ∷ k) (byte_at t q) _ (solid t (end_of t p)))
        (at_lives t q done (square ∷ k) (more t q done (square ∷ k) refl b) b)

    -- a comma and the next element, or the closing bracket
    comma_value : eqb (byte_at t (skip_of t (end_of t p))) 93 ≡ false → (eqb (byte_at t (skip_of t (end_of t p))) 44 ≡ true) × Scanned t (skip_of t (skip_of t (end_of t p) + 1)) (square ∷ k)
    comma_value h =
        let a = shut_or t (skip_of t (end_of t p)) val k (square ∷ k) (eqb (byte_at t (skip_of t (end_of t p))) 93) (eqb (byte_at t (skip_of t (end_of t p))) 44) after_on h in
        (a.0, value_from_lem t (square ∷ k) (skip_of t (end_of t p) + 1) a.1)

    at_bracket : eqb (byte_at t (skip_of t (end_of t p))) 93 ≡ true → next_element t p ≡ None
    unfolding next_element
    at_bracket h = rw (eqb-true (byte_at t (skip_of t (end_of t p))) 93 h)

    at_comma : (eqb (byte_at t (skip_of t (end_of t p))) 44 ≡ true) → Scanned t (skip_of t (skip_of t (end_of t p) + 1)) (square ∷ k) → next_element t p ≡ Some (skip_of t (skip_of t (end_of t p) + 1))
    unfolding next_element
    at_comma h v = rw h (found t p (skip_of t (end_of t p) + 1) v.value)

    pub next_scanned : (q : ℕ) → next_element t p ≡ Some q → Scanned t q (square ∷ k)
    next_scanned q h = go1 (eqb (byte_at t (skip_of t (end_of t p))) 93) refl
      where
        go1 : (x : Bool) → eqb (byte_at t (skip_of t (end_of t p))) 93 ≡ x → Scanned t q (square ∷ k)
        go1 true i = somewhere (sym (at_bracket i) ∙ h)
        go1 false i = let a = comma_value i in subst (λ (x : ℕ). Scanned t x (square ∷ k)) (same_spot (sym (at_comma a.0 a.1) ∙ h)) a.1

    pub next_closes : next_element t p ≡ None → byte_at t (skip_of t (end_of t p)) ≡ 93
    next_closes h = go1 (eqb (byte_at t (skip_of t (end_of t p))) 93) refl
      where
        go1 : (x : Bool) → eqb (byte_at t (skip_of t (end_of t p))) 93 ≡ x → byte_at t (skip_of t (end_of t p)) ≡ 93
        go1 true i = eqb-true (byte_at t (skip_of t (end_of t p))) 93 i
        go1 false i = let a = comma_value i in nowhere (sym (at_comma a.0 a.1) ∙ h)

  pub elements_scanned : (p : ℕ) → byte_at t p ≡ 91 → Scanned t p k → All (λ q. Scanned t q (square ∷ k)) (elements t p)
  unfolding elements elements_at
  elements_scanned p e s =
      all_on (λ q. Scanned t q (square ∷ k)) (next_element t) (λ x q i g. next_scanned x i q g) (suc (length t)) (first_element t p) (λ q g. first_scanned p e s q g)

-- ---- objects
key_string : (κ : Stack) (s : List ℕ) (q : ℕ) → run key κ q (34 ∷ s) ≡ Ok tt → run key κ q (34 ∷ s) ≡ run colon κ (q + to_rest 0 0 (34 ∷ s)) (drop (to_rest 0 0 (34 ∷ s)) (34 ∷ s))
unfolding mode_after depth_after at_rest
key_string κ s q h = go1 (run_lives key κ q 34 s h)
  where
    go1 : Lives (go (str as_key plain) κ) (λ m' κ'. run m' κ' (suc q) s) → run key κ q (34 ∷ s) ≡ run colon κ (q + to_rest 0 0 (34 ∷ s)) (drop (to_rest 0 0 (34 ∷ s)) (34 ∷ s))
    go1 (lives m' κ' r w) =
        closes_later as_key κ s key (str as_key plain) 34 q refl refl refl refl
        (string_closes as_key κ s (str as_key plain) (suc q) tt refl (sym (went (λ m'' κ''. run m'' κ'' (suc q) s) r) ∙ w))

-- a key ends where the automaton expects the colon
key_ends : (t : List ℕ) (κ : Stack) (q : ℕ) → byte_at t q ≡ 34 → run_at t key κ q ≡ Ok tt → run_at t colon κ (end_of t q) ≡ Ok tt
unfolding run_at end_of closing_of is_block
key_ends t κ q e h =
    let l = more t q key κ refl h in
    let d : drop q t ≡ 34 ∷ drop (suc q) t = drop_here t q l ∙ ap (λ (b : ℕ). b ∷ drop (suc q) t) e in
    let n = to_rest 0 0 (34 ∷ drop (suc q) t) in
    let a : run key κ q (34 ∷ drop (suc q) t) ≡ Ok tt = ap (λ (s : List ℕ). run key κ q s) (sym d) ∙ h in
    rw (e, d) (ap (λ (s : List ℕ). run colon κ (q + n) s) (sym (ap (drop n) (sym d) ∙ drop-drop n q t)) ∙ sym (key_string κ (drop (suc q) t) q a) ∙ a)

module _ (t : List ℕ) (κ : Stack) where
  -- a key, a colon, a value
  keyed : (q : ℕ) → eqb (byte_at t q) 34 ≡ true → run_at t key κ q ≡ Ok tt → (is_member t q ≡ true) × Scanned t (value_of t q) κ
  unfolding is_member value_of
  keyed q e h =
      let c = colon_of t q in
      let r = skips colon (λ b o i. rw i) κ t (end_of t q) (key_ends t κ q (eqb-true (byte_at t q) 34 e) h) in
      let l = subst (λ (y : Move). Lives y (λ m' κ'. run_at t m' κ' (c + 1))) (unspaced colon κ (byte_at t c) _ (solid t (end_of t q))) (at_lives t c colon κ (more t c colon κ refl r) r) in
      let a = only t c val κ (eqb (byte_at t c) 58) l in
      let v = value_from_lem t κ (c + 1) a.1 in
      (and_intro (eqb (byte_at t q) 34 && eqb (byte_at t c) 58) (starts_value (byte_at t (skip_of t (c + 1)))) (and_intro (eqb (byte_at t q) 34) (eqb (byte_at t c) 58) e a.0) v.value, v)

  key_found : (q : ℕ) → is_member t (skip_of t q) ≡ true → key_from t q ≡ Some (skip_of t q)
  unfolding key_from
  key_found q h = rw h

module _ (t : List ℕ) (k : Stack) where
  module _ (p : ℕ) (e : byte_at t p ≡ 123) (s : Scanned t p k) where
    object_on : run_at t key0 (brace ∷ k) (skip_of t (p + 1)) ≡ Ok tt
    object_on = skips key0 (λ b κ i. rw i) (brace ∷ k) t (p + 1) (opened t p k 123 brace key0 refl e s)

    -- a first member, or the closing brace
    first_member : eqb (byte_at t (skip_of t (p + 1))) 125 ≡ false → (is_member t (skip_of t (p + 1)) ≡ true) × Scanned t (value_of t (skip_of t (p + 1))) (brace ∷ k)
    first_member h =
        let q = skip_of t (p + 1) in
        let n = solid t (p + 1) in
        let l = more t q key0 (brace ∷ k) refl object_on in
        let y = subst (λ (y : Move). Lives y (λ m' κ'. run_at t m' κ' (q + 1))) (unspaced key0 (brace ∷ k) (byte_at t q) _ n) (at_lives t q key0 (brace ∷ k) l object_on) in
        let a = shut_or t q (str as_key plain) k (brace ∷ k) (eqb (byte_at t q) 125) (eqb (byte_at t q) 34) y h in
        let b : byte_at t q ≡ 34 = eqb-true (byte_at t q) 34 a.0 in
        keyed t (brace ∷ k) q a.0 (alike t q key0 key (brace ∷ k) l (ap (λ (x : ℕ). step key0 x (brace ∷ k)) b ∙ sym (ap (λ (x : ℕ). step key x (brace ∷ k)) b)) object_on)

    no_member : eqb (byte_at t (skip_of t (p + 1))) 125 ≡ true → key_from t (p + 1) ≡ None
    unfolding key_from is_member
    no_member h = rw (eqb-true (byte_at t (skip_of t (p + 1))) 125 h)

    pub first_key_scanned : (q : ℕ) → first_key t p ≡ Some q → Scanned t (value_of t q) (brace ∷ k)
    unfolding first_key
    first_key_scanned q h = go1 (eqb (byte_at t (skip_of t (p + 1))) 125) refl (sym (rw (e)) ∙ h)
      where
        go1 : (x : Bool) → eqb (byte_at t (skip_of t (p + 1))) 125 ≡ x → key_from t (p + 1) ≡ Some q → Scanned t (value_of t q) (brace ∷ k)
        go1 true i g = somewhere (sym (no_member i) ∙ g)
        go1 false i g = let a = first_member i in subst (λ (x : ℕ). Scanned t (value_of t x) (brace ∷ k)) (same_spot (sym (key_found t (brace ∷ k) (p + 1) a.0) ∙ g)) a.1

    pub first_key_closes : first_key t p ≡ None → byte_at t (skip_of t (p + 1)) ≡ 125
    unfolding first_key
    first_key_closes h = go1 (eqb (byte_at t (skip_of t (p + 1))) 125) refl (sym (rw (e)) ∙ h)
      where
        go1 : (x : Bool) → eqb (byte_at t (skip_of t (p + 1))) 125 ≡ x → key_from t (p + 1) ≡ None → byte_at t (skip_of t (p + 1)) ≡ 125
        go1 true i g = eqb-true (byte_at t (skip_of t (p + 1))) 125 i
        go1 false i g = nowhere (sym (key_found t (brace ∷ k) (p + 1) (first_member i).0) ∙ g)

  -- behind a member's value
  module _ (v : ℕ) (s : Scanned t v (brace ∷ k)) where
    behind_on : Lives (cond (eqb (byte_at t (skip_of t (end_of t v))) 125) (go done k) (one (eqb (byte_at t (skip_of t (end_of t v))) 44) key (brace ∷ k))) (λ m' κ'. run_at t m' κ' (skip_of t (end_of t v) + 1))
    behind_on =
        let q = skip_of t (end_of t v) in
        let b = behind t (brace ∷ k) s in
        subst (λ (y : Move). Lives y (λ m' κ'. run_at t m' κ' (q + 1))) (unspaced done (brace ∷ k) (byte_at t q) _ (solid t (end_of t v)))
        (at_lives t q done (brace ∷ k) (more t q done (brace ∷ k) refl b) b)

    -- a comma and the next member, or the closing brace
    comma_member : eqb (byte_at t (skip_of t (end_of t v))) 125 ≡ false
        → (eqb (byte_at t (skip_of t (end_of t v))) 44 ≡ true) × (is_member t (skip_of t (skip_of t (end_of t v) + 1)) ≡ true) × Scanned t (value_of t (skip_of t (skip_of t (end_of t v) + 1))) (brace ∷ k)
    comma_member h =
        let c = skip_of t (end_of t v) in
        let a = shut_or t c key k (brace ∷ k) (eqb (byte_at t c) 125) (eqb (byte_at t c) 44) behind_on h in
        let q = skip_of t (c + 1) in
        let r = skips key (λ b κ i. rw i) (brace ∷ k) t (c + 1) a.1 in
        let y = subst (λ (y : Move). Lives y (λ m' κ'. run_at t m' κ' (q + 1))) (unspaced key (brace ∷ k) (byte_at t q) _ (solid t (c + 1))) (at_lives t q key (brace ∷ k) (more t q key (brace ∷ k) refl r) r) in
        let o = only t q (str as_key plain) (brace ∷ k) (eqb (byte_at t q) 34) y in
        let z = keyed t (brace ∷ k) q o.0 r in
        (a.0, z.0, z.1)

    at_brace : eqb (byte_at t (skip_of t (end_of t v))) 125 ≡ true → key_behind t v ≡ None
    unfolding key_behind
    at_brace h = rw (eqb-true (byte_at t (skip_of t (end_of t v))) 125 h)

    at_key : eqb (byte_at t (skip_of t (end_of t v))) 44 ≡ true → is_member t (skip_of t (skip_of t (end_of t v) + 1)) ≡ true → key_behind t v ≡ Some (skip_of t (skip_of t (end_of t v) + 1))
    unfolding key_behind
    at_key h i = rw h (key_found t (brace ∷ k) (skip_of t (end_of t v) + 1) i)

    pub next_key_scanned : (q : ℕ) → key_behind t v ≡ Some q → Scanned t (value_of t q) (brace ∷ k)
    next_key_scanned q h = go1 (eqb (byte_at t (skip_of t (end_of t v))) 125) refl
      where
        go1 : (x : Bool) → eqb (byte_at t (skip_of t (end_of t v))) 125 ≡ x → Scanned t (value_of t q) (brace ∷ k)
        go1 true i = somewhere (sym (at_brace i) ∙ h)
        go1 false i = let a = comma_member i in subst (λ (x : ℕ). Scanned t (value_of t x) (brace ∷ k)) (same_spot (sym (at_key a.0 a.1) ∙ h)) a.2

    pub next_key_closes : key_behind t v ≡ None → byte_at t (skip_of t (end_of t v)) ≡ 125
    next_key_closes h = go1 (eqb (byte_at t (skip_of t (end_of t v))) 125) refl
      where
        go1 : (x : Bool) → eqb (byte_at t (skip_of t (end_of t v))) 125 ≡ x → byte_at t (skip_of t (end_of t v)) ≡ 125
        go1 true i = eqb-true (byte_at t (skip_of t (end_of t v))) 125 i
        go1 false i = let a = comma_member i in nowhere (sym (at_key a.0 a.1) ∙ h)

  pub members_scanned : (p : ℕ) → byte_at t p ≡ 123 → Scanned t p k → All (λ m. Scanned t m.value (brace ∷ k)) (members_at t p)
  unfolding members_at keys_at
  members_scanned p e s =
      all_map (member_of t) (λ m. Scanned t m.value (brace ∷ k)) (unroll (key_after t) (suc (length t)) (first_key t p))
      (all_on (λ q. Scanned t (value_of t q) (brace ∷ k)) (key_after t) (λ x q i g. next_key_scanned (value_of t x) i q g) (suc (length t)) (first_key t p) (λ q g. first_key_scanned p e s q g))

-- so is the value under a key
pub member_scanned : (t : List ℕ) (p : ℕ) (k : Stack) → byte_at t p ≡ 123 → Scanned t p k → (w : List ℕ) (v : ℕ) → member t p w ≡ Some v → Scanned t v (brace ∷ k)
member_scanned t p k b s w v e = member_all t w (λ q. Scanned t q (brace ∷ k)) p (members_scanned t k p b s) v e
