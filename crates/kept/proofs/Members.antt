-- Unions; 19, of each member against those before it.
-- Assumes nothing.
use Rattle.std.specs.Prelude.{Ok}
use mathlib.Core.Path.{◌≡◌, refl, sym, ap, ◌∙◌}
use mathlib.Core.Bool.{true, false, not}
use mathlib.Core.List.{List, [], ◌∷◌, ◌++◌, append_assoc}
use Prim.Native.Nat.{ℕ, ◌+◌, ◌<◌, ◌≤◌}
use native.Mathlib.Omega.{arith}
use lib.ListN.{length}
use borrow.Author.Tests.{not-true, eq-eqb, ne_eqb}
use Rattle.ground.proofs.Laws.{and_true, and_intro}
use Rattle.name.specs.Name.{every, is_empty, is_namespace}
use Rattle.json_scan.specs.Json.{longest}
use Rattle.row.specs.Rows.{Row}
use Rattle.row.specs.declared.kind.Kind.{Kind}
use Rattle.row.specs.declared.kind.Kind.TheVariants.{Union}
use Rattle.view.specs.Ends.{end_of}
use Rattle.view.specs.Elements.{elements}
use Rattle.view.proofs.Laws.{All as Each, Ascending, elements_ascend, end_ahead}
use Rattle.form.specs.declared.forms.Form.{Form}
use Rattle.rules.specs.declared.standing.Standing.TheVariants.{MemberOf}
use Rattle.form.specs.Forms.{form_of}
use Rattle.form.specs.Notes.{noted}
use Rattle.rules.specs.Unions.{Head, unnamed, clash as clashes, head_of, before, is_new, is_union, union_check}
use Rattle.schema.specs.Out.{Out, read, each}
use Rattle.schema.specs.Schema.{row_with, Around, as_member, union_rows}
use Rattle.fuel.proofs.Deep.{Deep, Opens, deep_less, deep_within, deep_elements}
use Rattle.resolve.specs.Kinds.{is_kind, is_primitive, is_definition, is_named, is_schema, has_one, is_part_of}
use Rattle.resolve.specs.Rules.{good_text, kinds_at, no_two, same_member, clash}
use Rattle.kept.proofs.Lists.{All, nil, cons, all_append, all_map, all_any, Misses, Unmet, unmet_misses, two_nil, two_cons, two_front}
use Rattle.kept.proofs.Forest.{Rows, rows_none, rows_append, rows_tops, rows_retop}
use Rattle.kept.proofs.Passed.{must_true, after_read, rows_read_lem, both_read, read_same}
use Rattle.kept.proofs.Numbers.{plain_numbers}
use Rattle.kept.proofs.Fits.{parts_fit_lem}
use Rattle.kept.proofs.Meets.{row_head, head_unnamed, head_union, member_new, member_quiet, member_unmet}
use Rattle.kept.proofs.Schemas.{any_rows, Schema, schema_kinds, schema_tree}

-- ---- those before an element are those in front of it

all_at : (P : ℕ → Type 0) (ps : List ℕ) (q : ℕ) (qs : List ℕ) → Each P (ps ++ (q ∷ qs)) → P q
all_at P [] q qs a = a.0
all_at P (p ∷ ps) q qs a = all_at P ps q qs a.1

before_front : (t ps : List ℕ) (q : ℕ) (qs : List ℕ) → Ascending t (ps ++ (q ∷ qs)) → before q (ps ++ (q ∷ qs)) ≡ ps
unfolding before
before_front t [] q qs a = rw (eq-eqb q q refl)
before_front t (p ∷ ps) q qs a =
    let h = all_at (λ y. end_of t p < y) ps q qs a.0 in
    let k = end_ahead t p in
    rw (ne_eqb p q (λ (e : p ≡ q). omega arith)) (ap (λ (l : List ℕ). p ∷ l) (before_front t ps q qs a.1))

-- ---- 19

new_behind : (t namespace : List ℕ) (h : Head) (ps : List ℕ) (q : ℕ) → is_new t namespace h (ps ++ (q ∷ [])) ≡ true
    → (is_new t namespace h ps ≡ true) × (clashes (head_of t namespace (form_of t q)) h ≡ false)
unfolding is_new
new_behind t namespace h [] q e = (refl, not-true _ (and_true _ true e).0)
new_behind t namespace h (p ∷ ps) q e =
    let z = and_true (not (clashes (head_of t namespace (form_of t p)) h)) (is_new t namespace h (ps ++ (q ∷ []))) e in
    let y = new_behind t namespace h ps q z.1 in
    (and_intro (not (clashes (head_of t namespace (form_of t p)) h)) (is_new t namespace h ps) z.0 y.0, y.1)

-- a member that was read passed 19 against those before it
member_passed : (t namespace : List ℕ) (u q : ℕ) (h : Head) (ps qs : List ℕ) → elements t u ≡ ps ++ (q ∷ qs) → union_check t namespace (MemberOf u q) h ≡ Ok tt
    → (not (is_union h) ≡ true) × (is_new t namespace h ps ≡ true)
unfolding union_check
member_passed t namespace u q h ps qs e c =
    let z = and_true (not (is_union h)) (is_new t namespace h (before q (elements t u))) (must_true _ _ c) in
    let b : before q (elements t u) ≡ ps = rw e (before_front t ps q qs (rw e at (elements_ascend t u))) in
    (z.0, rw b at z.1)

record Among (t namespace : List ℕ) (d : ℕ) (ps : List ℕ) (rs : List Row) : Type 0 where
  rows : Rows t (d + 1) (is_part_of Union) rs
  missed : (a : Row) → ((h : Head) → is_new t namespace h ps ≡ true → clashes (row_head a) h ≡ false) → Misses (same_member d) a rs
  apart : no_two (same_member d) rs ≡ true

union_part : (k : Kind) → not (is_kind Union k) ≡ true → is_schema k ≡ true → is_part_of Union k ≡ true
unfolding is_part_of is_kind
union_part k u s = rw (u, s)

module _ (t : List ℕ) (a : Around) (d u : ℕ) where
  -- a member in front of members
  member_apart : (q : ℕ) (ps qs : List ℕ) {xs ys : List Row} → elements t u ≡ ps ++ (q ∷ qs) → Schema t (as_member a u q) (d + 1) (form_of t q) xs
      → Among t a.namespace d (ps ++ (q ∷ [])) ys → Among t a.namespace d ps (xs ++ ys)
  member_apart q ps qs {ys = ys} el s rest =
      let n = a.namespace in
      let r = s.root in
      let pa = member_passed t n u q (row_head r) ps qs el s.new in
      let ro = rows_retop (is_part_of Union) s.rows (schema_kinds s) (union_part r.kind (head_union r pa.0) s.kind) in
      let ki = rows_tops s.below in
      let unmet : All (Unmet (same_member d)) s.kids = all_map (λ b v. member_unmet d b (let l = v.deep in omega arith)) ki in
      let miss : All (λ b. Misses (same_member d) b ys) s.kids = all_map (λ b v. all_any (member_quiet d b (let l = v.deep in omega arith)) ys) ki in
      let mine : (h : Head) → is_new t n h (ps ++ (q ∷ [])) ≡ true → clashes (row_head r) h ≡ false = λ h v. rw s.head (new_behind t n h ps q v).1 in
      rw s.is
      (record {
        rows = rows_append (rw s.is at ro) rest.rows;
        missed = λ b v. cons (member_new d b r (v (row_head r) pa.1)) (all_append (unmet_misses (same_member d) b unmet) (rest.missed b (λ h w. v h (new_behind t n h ps q w).0)));
        apart = two_cons (same_member d) r (all_append (unmet_misses (same_member d) r unmet) (rest.missed r mine)) (two_front (same_member d) unmet miss rest.apart);
      })

  module _ (schema : Around → ℕ → ℕ → Out) (good : is_namespace a.namespace ≡ true)
      (reads : (b : Around) → is_namespace b.namespace ≡ true → (e q : ℕ) → Deep t 0 q → (rs : List Row) → schema b e q ≡ read rs → Schema t b e (form_of t q) rs) where
    members_apart : (ps qs : List ℕ) {rs : List Row} → elements t u ≡ ps ++ qs → Each (Deep t 1) qs → each (λ q. schema (as_member a u q) (d + 1) q) qs ≡ read rs → Among t a.namespace d ps rs
    unfolding each
    members_apart ps [] el i e = rw (sym (read_same e)) (record { rows = rows_none; missed = λ b h. nil; apart = two_nil (same_member d) })
    members_apart ps (q ∷ qs) el i e =
        let z = both_read (schema (as_member a u q) (d + 1) q) (each (λ q. schema (as_member a u q) (d + 1) q) qs) e in
        rw z.is
        (member_apart q ps qs el (reads (as_member a u q) good (d + 1) q (deep_less i.0) z.front z.first)
        (members_apart (ps ++ (q ∷ [])) qs (el ∙ sym (append_assoc ps (q ∷ []) qs)) i.1 z.second))

    pub union_schema : length t ≤ longest → (f : Form) → Opens t 0 91 u → head_of t a.namespace f ≡ unnamed Union → {rs : List Row} → union_rows schema t a d u ≡ read rs → Schema t a d f rs
    unfolding union_rows is_schema is_primitive is_named is_definition is_kind good_text is_empty has_one clash every
    union_schema short f o heads e =
        let w = deep_within o.deep in
        let y = after_read (union_check t a.namespace a.standing (unnamed Union)) _ e in
        let z = rows_read_lem (row_with Union d u [] 0 (noted 0) ∷ []) _ y.1 in
        let m = members_apart [] (elements t u) refl (deep_elements t 0 u o) z.reads in
        let he = head_unnamed (row_with Union d u [] 0 (noted 0)) refl in
        rw z.is
        (schema_tree t a f Union d u [] 0 (noted 0) refl w refl (plain_numbers Union d u [] (omega arith)) (any_rows m.rows)
        (parts_fit_lem Union refl [] (kinds_at (d + 1) z.more) refl m.rows.tops)
        m.apart
        (rw he y.0)
        (he ∙ sym heads))
