-- Values of a scanned text by how many brackets are open around them: one more at each element and at each member's value, and never more than 64.
-- Assumes nothing.
use Rattle.std.specs.Prelude.{Option, Some, None}
use mathlib.Core.Path.{◌≡◌, refl, ap, ◌∙◌, subst}
use mathlib.Core.Bool.{Bool, true, false, cond, ◌||◌}
use mathlib.Core.List.{List, [], ◌∷◌}
use Prim.Native.Nat.{ℕ, suc, ◌+◌, ◌<◌, ◌≤◌}
use native.Mathlib.Omega.{arith}
use lib.Dec.{eqb, ltb}
use lib.ListN.{length}
use borrow.Author.Tests.{eqb-true, ltb-true}
use Rattle.answer.specs.declared.refusal.Why.TheVariants.{NestedTooDeep}
use Rattle.ground.specs.Bytes.{byte_at}
use Rattle.json_scan.specs.Json.{Mode, Stack, Move, Bracket, go, die, deepest, is_digit, square, brace, val, first, key0, opens, step}
use Rattle.json_scan.specs.Meets.{run_at}
use Rattle.view.specs.declared.shape.Shape.TheVariants.{Text, Number, Object, Array, Word, Nothing}
use Rattle.view.specs.Values.{shape_of, shape_at}
use Rattle.view.specs.Elements.{elements}
use Rattle.view.specs.Members.{member}
use Rattle.view.proofs.Laws.{All}
use Rattle.viewed.proofs.Machine.{never}
use Rattle.viewed.proofs.Blocks.{Lives, lives}
use Rattle.viewed.proofs.Literals.{gone}
use Rattle.viewed.proofs.Scanned.{Scanned, more, at_lives}
use Rattle.viewed.proofs.Nested.{elements_scanned, member_scanned}
use Rattle.form.specs.Spots.{is_array, is_object, as_array, objects_among, fields_in}

-- ---- a first byte by the shape that it gives

pub array_byte : (b : ℕ) → is_array (shape_of b) ≡ true → b ≡ 91
unfolding shape_of
array_byte b h = go1 (eqb b 34) (eqb b 91) refl (eqb b 123) (eqb b 45 || is_digit b) (eqb b 116 || eqb b 102 || eqb b 110) h
  where
    go1 : (x y : Bool) → eqb b 91 ≡ y → (z u w : Bool) → is_array (cond x Text (cond y Array (cond z Object (cond u Number (cond w Word Nothing))))) ≡ true → b ≡ 91
    go1 true y e z u w h = never h
    go1 false true e z u w h = eqb-true b 91 e
    go1 false false e true u w h = never h
    go1 false false e false true w h = never h
    go1 false false e false false true h = never h
    go1 false false e false false false h = never h

pub object_byte : (b : ℕ) → is_object (shape_of b) ≡ true → b ≡ 123
unfolding shape_of
object_byte b h = go1 (eqb b 34) (eqb b 91) (eqb b 123) refl (eqb b 45 || is_digit b) (eqb b 116 || eqb b 102 || eqb b 110) h
  where
    go1 : (x y z : Bool) → eqb b 123 ≡ z → (u w : Bool) → is_object (cond x Text (cond y Array (cond z Object (cond u Number (cond w Word Nothing))))) ≡ true → b ≡ 123
    go1 true y z e u w h = never h
    go1 false true z e u w h = never h
    go1 false false true e u w h = eqb-true b 123 e
    go1 false false false e true w h = never h
    go1 false false false e false true h = never h
    go1 false false false e false false h = never h

-- ---- places

pub same_spot : {p q : ℕ} → Some p ≡ Some q → p ≡ q
same_spot h = cc

pub somewhere : {A : Type 0} {q : ℕ} → None ≡ Some q → A
somewhere h = let z : ◌≡◌ {A = ℕ} 0 1 = cc in absurd (omega arith)

pub as_array_lem : (t : List ℕ) (s : Option ℕ) (v : ℕ) → as_array t s ≡ Some v → (s ≡ Some v) × (byte_at t v ≡ 91)
unfolding as_array
as_array_lem t None v e = somewhere e
as_array_lem t (Some p) v e = go1 (is_array (shape_at t p)) refl e
  where
    go1 : (b : Bool) → is_array (shape_at t p) ≡ b → cond b (Some p) None ≡ Some v → (Some p ≡ Some v) × (byte_at t v ≡ 91)
    go1 true h e = (e, subst (λ (x : ℕ). byte_at t x ≡ 91) (same_spot e) (array_byte (byte_at t p) h))
    go1 false h e = somewhere e

-- ---- an opening bracket finds room on the stack

room : (t : List ℕ) (p : ℕ) (k : Stack) (c : ℕ) (x : Bracket) (m : Mode) → step val c k ≡ opens x m k → byte_at t p ≡ c → Scanned t p k → length k < deepest
room t p k c x m o e s =
    go1 (ltb (length k) deepest) refl (subst (λ (y : Move). Lives y (λ m' κ'. run_at t m' κ' (p + 1))) (ap (λ (b : ℕ). step val b k) e ∙ o) (at_lives t p val k (more t p val k refl s.on) s.on))
  where
    go1 : (y : Bool) → ltb (length k) deepest ≡ y → Lives (cond y (go m (x ∷ k)) (die NestedTooDeep)) (λ m' κ'. run_at t m' κ' (p + 1)) → length k < deepest
    go1 true h l = ltb-true (length k) deepest h
    go1 false h (lives m' κ' q w) = gone q

-- a value stands at p, in n brackets or more
pub record Deep (t : List ℕ) (n p : ℕ) : Type 0 where
  pub stack : Stack
  pub scanned : Scanned t p stack
  pub least : n ≤ length stack
  pub most : length stack ≤ deepest

pub deep_less : {t : List ℕ} {n p : ℕ} → Deep t (suc n) p → Deep t n p
deep_less d = let l = d.least in record { stack = d.stack; scanned = d.scanned; least = omega arith; most = d.most }

pub deep_any : {t : List ℕ} {n p : ℕ} → Deep t n p → Deep t 0 p
deep_any d = record { stack = d.stack; scanned = d.scanned; least = omega arith; most = d.most }

pub deep_within : {t : List ℕ} {n p : ℕ} → Deep t n p → p < length t
deep_within {t} {n} {p} d = more t p val d.stack refl d.scanned.on

-- it opens with the byte c
pub record Opens (t : List ℕ) (n c p : ℕ) : Type 0 where
  pub deep : Deep t n p
  pub byte : byte_at t p ≡ c

map_all : {A : Type 0} {P Q : A → Type 0} → ((x : A) → P x → Q x) → (xs : List A) → All P xs → All Q xs
map_all f [] a = tt
map_all f (x ∷ xs) a = (f x a.0, map_all f xs a.1)

module _ (t : List ℕ) (n p : ℕ) where
  within : (k : Stack) (x : Bracket) → n ≤ length k → length k < deepest → (q : ℕ) → Scanned t q (x ∷ k) → Deep t (suc n) q
  within k x l r q s = record { stack = x ∷ k; scanned = s; least = omega arith; most = omega arith }

  -- the elements of an array
  pub deep_elements : Opens t n 91 p → All (Deep t (suc n)) (elements t p)
  deep_elements o =
      let k = o.deep.stack in
      let s = o.deep.scanned in
      map_all (within k square o.deep.least (room t p k 91 square first refl o.byte s)) (elements t p) (elements_scanned t k p o.byte s)

  -- the value under a key of an object
  pub deep_member : Opens t n 123 p → (w : List ℕ) (v : ℕ) → member t p w ≡ Some v → Deep t (suc n) v
  deep_member o w v e =
      let k = o.deep.stack in
      let s = o.deep.scanned in
      within k brace o.deep.least (room t p k 123 brace key0 refl o.byte s) v (member_scanned t p k o.byte s w v e)

-- ---- the fields of a record

objects_open : (t : List ℕ) (n : ℕ) (ps : List ℕ) → All (Deep t n) ps → All (Opens t n 123) (objects_among t ps)
unfolding objects_among
objects_open t n [] a = tt
objects_open t n (p ∷ ps) a = go1 (is_object (shape_at t p)) refl (objects_open t n ps a.1)
  where
    go1 : (b : Bool) → is_object (shape_at t p) ≡ b → All (Opens t n 123) (objects_among t ps) → All (Opens t n 123) (cond b (p ∷ objects_among t ps) (objects_among t ps))
    go1 true h r = (record { deep = a.0; byte = object_byte (byte_at t p) h }, r)
    go1 false h r = r

pub fields_open : (t : List ℕ) (n v : ℕ) → Opens t n 91 v → All (Opens t (suc n) 123) (fields_in t v)
unfolding fields_in
fields_open t n v o = objects_open t (suc n) (elements t v) (deep_elements t n v o)
