-- The members of a union that are surely new: what a mark that is not there says of a head, and the turns of the loop over the members.
-- Assumes nothing.
use Rattle.std.specs.Prelude.{Option, Some, None, Ok}
use mathlib.Core.Path.{◌≡◌, refl, sym, ap, subst, ◌∙◌}
use mathlib.Core.Bool.{Bool, true, false, not, ◌&&◌}
use mathlib.Core.List.{List, [], ◌∷◌, ◌++◌, map, map-append, append-nil}
use Prim.Native.Nat.{ℕ, ◌<◌, ◌≤◌}
use native.Mathlib.Omega.{arith}
use lib.Dec.{eqb}
use lib.ListN.{length}
use borrow.Author.Tests.{eq-eqb, ne_eqb, eqb-true, not-true, lt-ltb, le-ltb}
use Rattle.ground.specs.Bytes.{same}
use Rattle.ground.proofs.Laws.{never, and_true, same_true, same_refl}
use Rattle.name.specs.Name.{is_one_of}
use Rattle.name.specs.Full.{answer_of}
use Rattle.row.specs.Kinds.{kind_number}
use Rattle.row.specs.declared.kind.Kind.TheVariants.{Union}
use Rattle.view.specs.Ends.{end_of}
use Rattle.view.specs.Elements.{first_element, next_element, elements_at, elements}
use Rattle.view.specs.Marks.{mark_of}
use Rattle.view.proofs.Laws.{All, Ascending, end_ahead, elements_ascend, left_done, left_next}
use Rattle.seen.specs.Seen.{Sized, is_marked, entered, Holds}
use Rattle.seen.proofs.Laws.{length_entered, sized_as, holds_none, holds_more, surely_new}
use Rattle.form.specs.Forms.{form_of}
use Rattle.rules.specs.declared.standing.Standing.TheVariants.{Alone, MemberOf}
use Rattle.rules.specs.declared.unions.Apart.{Apart}
use Rattle.rules.specs.declared.unions.Apart.TheVariants as apart
use Rattle.rules.specs.Unions.{Head, unnamed, called, clash, head_of, apart_of, by_name, before, is_new, is_union, union_check}
use Rattle.rules.specs.Members.{key_of, key_at, member_check, Enters, SureOf, Sure, standing_of}
use Rattle.rules.proofs.Earlier.{Passed, passed_start, passed_next, passed_before}

-- ---- heads by their keys

-- heads that clash have one key
key_one : (g h : Head) → clash g h ≡ true → same (key_of h) (key_of g) ≡ true
unfolding clash key_of same
key_one (unnamed j) (unnamed k) e = let z = eqb-true (kind_number j) (kind_number k) e in rw z (same_refl (kind_number k ∷ []))
key_one (unnamed j) (called b) e = never e
key_one (called a) (unnamed k) e = never e
key_one (called a) (called b) e = rw (same_true a b e) (same_refl b)

module _ (t namespace : List ℕ) (h : Head) where
  -- a key that none of some members has is that of a head that is new
  pub key_new : (ps : List ℕ) → is_one_of (map (key_at t namespace) ps) (key_of h) ≡ false → is_new t namespace h ps ≡ true
  unfolding is_one_of is_new
  key_new [] e = refl
  key_new (p ∷ ps) e = go (clash (head_of t namespace (form_of t p)) h) refl (same (key_of h) (key_at t namespace p)) refl (key_new ps)
    where
      go : (x : Bool) → clash (head_of t namespace (form_of t p)) h ≡ x → (y : Bool) → same (key_of h) (key_at t namespace p) ≡ y
          → (is_one_of (map (key_at t namespace) ps) (key_of h) ≡ false → is_new t namespace h ps ≡ true) → (not x && is_new t namespace h ps) ≡ true
      go x f true g i = let z : true ≡ false = rw g at e in never (sym z)
      go true f false g i = never (sym g ∙ key_one (head_of t namespace (form_of t p)) h f)
      go false f false g i = i (rw g at e)

  pub key_unmarked : {table : List ℕ} (ps : List ℕ) → Holds table (map (key_at t namespace) ps) → is_marked table (mark_of (key_of h)) ≡ false → is_new t namespace h ps ≡ true
  key_unmarked ps held e = key_new ps (surely_new held (key_of h) e)

-- ---- one member

-- a kind that is answered is the head's
kinded : (h : Head) {x : Apart} → x ≡ apart_of h → {n : ℕ} → x ≡ apart.Kind n → (n ∷ [] ≡ key_of h) × (eqb n (kind_number Union) ≡ is_union h)
unfolding apart_of key_of
kinded (unnamed k) e {n} f = let z : n ≡ kind_number k = cc in (ap (λ (i : ℕ). i ∷ []) z, ap (λ (i : ℕ). eqb i (kind_number Union)) z)
kinded (called s) e {n} f = absurd (go (answer_of s) (sym e ∙ f))
  where
    go : (a : Option ℕ) → by_name a ≡ apart.Kind n → ⊥
    go (Some k) g = let z : ◌≡◌ {A = ℕ} 0 1 = cc in omega arith
    go None g = let z : ◌≡◌ {A = ℕ} 0 1 = cc in omega arith

named : (h : Head) {s : List ℕ} → called s ≡ h → (s ≡ key_of h) × (false ≡ is_union h)
unfolding key_of
named h e = rw (← e) (refl, refl)

module _ (t namespace : List ℕ) (u q : ℕ) where
  -- a head that is that of no union, and new
  passes : (h : Head) → head_of t namespace (form_of t q) ≡ h → false ≡ is_union h → is_new t namespace h (before q (elements t u)) ≡ true → member_check t namespace u q ≡ Ok tt
  unfolding union_check
  passes h e f g = rw (e, ← f, g)

module _ (t namespace : List ℕ) (u q : ℕ) {table table' : List ℕ} where
  pub enters_not : Enters t namespace u q table table' false
  enters_not = record { enters = tt }

  pub enters_kind : Holds table (map (key_at t namespace) (before q (elements t u))) → {x : Apart} → x ≡ apart_of (head_of t namespace (form_of t q)) → {n : ℕ} → x ≡ apart.Kind n
      → {r : Bool} → r ≡ (not (eqb n (kind_number Union)) && not (is_marked table (mark_of (n ∷ [])))) → table' ≡ entered table (mark_of (n ∷ [])) → Enters t namespace u q table table' r
  enters_kind held {x} e {n} f {r} g i = go r g
    where
      h : Head
      h = head_of t namespace (form_of t q)

      go : (r : Bool) → r ≡ (not (eqb n (kind_number Union)) && not (is_marked table (mark_of (n ∷ [])))) → Enters t namespace u q table table' r
      go false j = enters_not
      go true j =
          let k = kinded h e f in
          let b = and_true (not (eqb n (kind_number Union))) (not (is_marked table (mark_of (n ∷ [])))) (sym j) in
          record {
            enters = (
              passes t namespace u q h refl (sym (not-true (eqb n (kind_number Union)) b.0) ∙ k.1)
                  (key_unmarked t namespace h (before q (elements t u)) held (ap (λ (s : List ℕ). is_marked table (mark_of s)) (sym k.0) ∙ not-true (is_marked table (mark_of (n ∷ []))) b.1)),
              i ∙ ap (λ (s : List ℕ). entered table (mark_of s)) k.0,
            );
          }

  pub enters_name : {s : List ℕ} → called s ≡ head_of t namespace (form_of t q) → {r : Bool} → r ≡ is_new t namespace (called s) (before q (elements t u))
      → table' ≡ entered table (mark_of s) → Enters t namespace u q table table' r
  enters_name {s} e {r} g i = go r g
    where
      go : (r : Bool) → r ≡ is_new t namespace (called s) (before q (elements t u)) → Enters t namespace u q table table' r
      go false j = enters_not
      go true j =
          record {
            enters = (passes t namespace u q (called s) (sym e) refl (sym j), i ∙ ap (λ (k : List ℕ). entered table (mark_of k)) (named (head_of t namespace (form_of t q)) e).0);
          }

-- ---- all members, in order

pub record Going (t namespace : List ℕ) (u : ℕ) (s : Option ℕ) (table : List ℕ) : Type 0 where
  pub past : List ℕ
  pub passed : Passed t u s past
  pub held : Holds table (map (key_at t namespace) past)
  pub sized : Sized table
  pub fine : All (λ q. member_check t namespace u q ≡ Ok tt) past

pub going_start : (t namespace : List ℕ) (u : ℕ) {s : Option ℕ} {table : List ℕ} → Sized table → s ≡ first_element t u → Going t namespace u s table
going_start t namespace u {s} {table} l e = record { past = []; passed = passed_start t u e; held = holds_none table; sized = l; fine = tt }

all_snoc : (P : ℕ → Type 0) (qs : List ℕ) (q : ℕ) → All P qs → P q → All P (qs ++ (q ∷ []))
all_snoc P [] q a b = (b, tt)
all_snoc P (x ∷ qs) q a b = (a.0, all_snoc P qs q a.1 b)

module _ (t namespace : List ℕ) (u : ℕ) where
  -- where all are fine any place will do
  sure_all : (place : ℕ) (qs : List ℕ) → All (λ q. member_check t namespace u q ≡ Ok tt) qs → SureOf t namespace u place qs
  sure_all place [] a = tt
  sure_all place (q ∷ qs) a = (λ l. a.0, sure_all place qs a.1)

  sure_behind : (place : ℕ) (qs : List ℕ) → All (λ y. end_of t place < y) qs → SureOf t namespace u place qs
  sure_behind place [] a = tt
  sure_behind place (q ∷ qs) a = let b = end_ahead t place in let c = a.0 in (λ (l : q < place). absurd (omega arith), sure_behind place qs a.1)

  sure_seam : (qs : List ℕ) (q : ℕ) (rest : List ℕ) → All (λ q. member_check t namespace u q ≡ Ok tt) qs → Ascending t (qs ++ (q ∷ rest)) → SureOf t namespace u q (qs ++ (q ∷ rest))
  sure_seam [] q rest a b = (λ (l : q < q). absurd (omega arith), sure_behind q rest b.0)
  sure_seam (x ∷ qs) q rest a b = (λ l. a.0, sure_seam qs q rest a.1 b.1)

  pub sure_none : Sure t namespace u 0
  sure_none = record { sure = go (elements t u) }
    where
      go : (qs : List ℕ) → SureOf t namespace u 0 qs
      go [] = tt
      go (q ∷ qs) = (λ (l : q < 0). absurd (omega arith), go qs)

  module _ {s : Option ℕ} {table : List ℕ} (inv : Going t namespace u s table) where
    pub going_done : s ≡ None → Sure t namespace u (length t)
    going_done e =
        let z : elements t u ≡ inv.past = inv.passed.split ∙ ap (λ (l : List ℕ). inv.past ++ l) (left_done t e) ∙ append-nil inv.past in
        record { sure = subst (λ (l : List ℕ). SureOf t namespace u (length t) l) (sym z) (sure_all (length t) inv.past inv.fine) }

    module _ {q : ℕ} (e : s ≡ Some q) where
      pub going_held : Holds table (map (key_at t namespace) (before q (elements t u)))
      going_held = subst (λ (l : List ℕ). Holds table (map (key_at t namespace) l)) (sym (passed_before inv.passed e)) inv.held

      pub going_stop : Sure t namespace u q
      going_stop =
          let z = inv.passed.split ∙ ap (λ (l : List ℕ). inv.past ++ l) (left_next t e refl) in
          record {
            sure = subst (λ (l : List ℕ). SureOf t namespace u q l) (sym z)
                (sure_seam inv.past q (elements_at t (next_element t q)) inv.fine (subst (λ (l : List ℕ). Ascending t l) z (elements_ascend t u)));
          }

      pub going_on : {table₁ : List ℕ} {r : Bool} → Enters t namespace u q table table₁ r → r ≡ true → {s' : Option ℕ} → s' ≡ next_element t q → Going t namespace u s' table₁
      going_on {table₁} {r} h i {s'} j = go r h i
        where
          go : (r : Bool) → Enters t namespace u q table table₁ r → r ≡ true → Going t namespace u s' table₁
          go false h i = never i
          go true h i =
              let f = h.enters in
              let m = map-append (key_at t namespace) inv.past (q ∷ []) in
              record {
                past = inv.past ++ (q ∷ []);
                passed = passed_next inv.passed e j;
                held = rw (m, f.1) (holds_more inv.held (key_at t namespace q) inv.sized.some);
                sized = sized_as inv.sized (ap length f.1 ∙ length_entered table (mark_of (key_at t namespace q)));
                fine = all_snoc (λ q. member_check t namespace u q ≡ Ok tt) inv.past q inv.fine f.0;
              }

-- ---- what is answered

module _ (n : ℕ) {u : ℕ} (e : u ≡ kind_number Union) where
  pub kind_union : n ≡ u → (b : Bool) → false ≡ (not (eqb n (kind_number Union)) && b)
  kind_union f b = rw (eq-eqb n (kind_number Union) (f ∙ e))

  pub kind_other : (n ≡ u → ⊥) → {was b : Bool} → was ≡ b → not was ≡ (not (eqb n (kind_number Union)) && not b)
  kind_other f g = rw (ne_eqb n (kind_number Union) (λ z. f (z ∙ sym e)), g)

-- a full name whose mark is not there
pub name_unmarked : (t namespace : List ℕ) (name ps : List ℕ) {table : List ℕ} → Holds table (map (key_at t namespace) ps) → {m : ℕ} → m ≡ mark_of name → {was : Bool} → was ≡ is_marked table m
    → was ≡ false → true ≡ is_new t namespace (called name) ps
unfolding key_of
name_unmarked t namespace name ps {table} held e f g = sym (key_unmarked t namespace (called name) ps held (ap (is_marked table) (sym e) ∙ sym f ∙ g))

module _ (u q place : ℕ) where
  pub stands_alone : q < place → Alone ≡ standing_of u q place
  stands_alone l = rw (lt-ltb q place l)

  pub stands_member : place ≤ q → MemberOf u q ≡ standing_of u q place
  stands_member l = rw (le-ltb q place l)
