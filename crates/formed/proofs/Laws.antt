-- Well-formed memory is exactly the encoding of a good set, and how good sets grow and are cut.
-- Assumes nothing.
use mathlib.Core.Path.{◌≡◌, refl, sym, ap, ◌∙◌}
use mathlib.Core.Bool.{true, ◌&&◌, and_assoc}
use mathlib.Core.List.{List, [], ◌∷◌, ◌++◌, append-nil, append_assoc}
use Prim.Native.Nat.{ℕ, ◌+◌, ◌<◌, ◌≤◌}
use native.Mathlib.Omega.{arith}
use lib.ListN.{length, take, drop, length-append, take-append-drop}
use Rattle.std.specs.Prelude.{Ok, Err}
use Rattle.ground.proofs.Laws.{and_true}
use Rattle.name.specs.Name.{every}
use Rattle.row.specs.Layout.{declaration_limit, row_limit, string_limit}
use Rattle.row.specs.Rows.{Row, all_fit, texts}
use Rattle.row.specs.Sets.{flat, encode, decode, Within, is_encoding}
use Rattle.row.proofs.RowLaws.{fit_both, texts_append}
use Rattle.row.proofs.SetLaws.{flat_append}
use Rattle.row.proofs.Laws.{decode_encode, encoding_true, true_encoding}
use Rattle.resolve.specs.Rules.{is_declaration}
use Rattle.resolve.specs.Resolve.{Resolution, fault_in, or_else, is_resolved, resolves}
use Rattle.formed.specs.WellFormed.{defaults_fit, Good, keeps_rules, well_formed}
use Rattle.resolve.proofs.ResolveLaws.{fault_append}
use Rattle.resolve.proofs.Laws.{declaration_fits, every_append}
use Rattle.fits.specs.Misfits.{misfit_in}

declarations_fit : (ds : List (List Row)) → every is_declaration ds ≡ true → length (flat ds) ≤ row_limit → all_fit (flat ds) ≡ true
unfolding every flat all_fit
declarations_fit [] e h = refl
declarations_fit (d ∷ ds) e h =
    let p = and_true (is_declaration d) (every is_declaration ds) e in
    let n = length-append d (flat ds) in
    fit_both d (flat ds) (declaration_fits d p.0 (omega arith)) (declarations_fit ds p.1 (omega arith))

-- memory can hold a good set
pub good_within : (ds : List (List Row)) → Good ds → Within ds
good_within ds g = record { declarations = g.few; rows = g.rows; strings = g.strings; numbers = declarations_fit ds g.declarations g.rows }

-- ---- EXACTNESS

pub exact : (m : List ℕ) → well_formed m ≡ true → (m ≡ encode (decode m)) × Good (decode m)
unfolding well_formed keeps_rules
exact m e =
    let a = and_true (is_encoding m) _ e in
    let b = encoding_true m a.0 in
    let f = and_true (every is_declaration (decode m) && resolves (decode m)) _ a.1 in
    let c = and_true (every is_declaration (decode m)) _ f.0 in
    (b.0, record { few = b.1.declarations; rows = b.1.rows; strings = b.1.strings; declarations = c.0; resolved = c.1; fitting = f.1 })

pub encode_good : (ds : List (List Row)) → Good ds → well_formed (encode ds) ≡ true
unfolding well_formed keeps_rules
encode_good ds g =
    let w = good_within ds g in
    rw (true_encoding ds w, decode_encode ds w, g.declarations, g.resolved, g.fitting)

-- ---- the empty set, a set cut, one declaration more

pub none_good : Good []
unfolding every resolves fault_in flat texts defaults_fit
none_good = record { few = omega arith; rows = omega arith; strings = omega arith; declarations = refl; resolved = refl; fitting = refl }

pub resolved_true : (r : Resolution) → is_resolved r ≡ true → r ≡ Ok tt
resolved_true (Ok _) e = refl
resolved_true (Err f) e = cc

or_front : (a b : Resolution) → is_resolved (or_else a b) ≡ true → is_resolved a ≡ true
or_front (Ok _) b e = refl
or_front (Err f) b e = e

-- the defaults of declarations in two parts: those of the second stand behind all rows of the first
pub fitting_append : (earlier : List Row) (a b : List (List Row)) → defaults_fit earlier (a ++ b) ≡ (defaults_fit earlier a && defaults_fit (earlier ++ flat a) b)
unfolding defaults_fit flat
fitting_append earlier [] b = rw (append-nil earlier)
fitting_append earlier (d ∷ a) b =
    rw (fitting_append (earlier ++ d) a b, append_assoc earlier d (flat a)) (sym (and_assoc (is_resolved (misfit_in (earlier ++ d) d)) (defaults_fit (earlier ++ d) a) (defaults_fit (earlier ++ (d ++ flat a)) b)))

-- of one declaration more
pub fitting_more : (ds : List (List Row)) (d : List Row) → defaults_fit [] ds ≡ true → misfit_in (flat ds ++ d) d ≡ Ok tt → defaults_fit [] (ds ++ (d ∷ [])) ≡ true
unfolding defaults_fit
fitting_more ds d e f = fitting_append [] ds (d ∷ []) ∙ rw (e, f)

module _ (a b : List (List Row)) where
  resolves_append : resolves (a ++ b) ≡ is_resolved (or_else (fault_in [] (flat a)) (fault_in (flat a) (flat b)))
  unfolding resolves
  resolves_append = ap is_resolved (ap (fault_in []) (flat_append a b) ∙ fault_append [] (flat a) (flat b))

  pub front_good : Good (a ++ b) → Good a
  unfolding resolves
  front_good g =
      let n = length-append a b in
      let k : length (flat (a ++ b)) ≡ length (flat a) + length (flat b) = ap length (flat_append a b) ∙ length-append (flat a) (flat b) in
      let t : length (texts (flat (a ++ b))) ≡ length (texts (flat a)) + length (texts (flat b)) = ap (λ (x : List Row). length (texts x)) (flat_append a b) ∙ ap length (texts_append (flat a) (flat b)) ∙ length-append (texts (flat a)) (texts (flat b)) in
      record {
        few = omega (arith, g.few);
        rows = omega (arith, g.rows);
        strings = omega (arith, g.strings);
        declarations = (and_true (every is_declaration a) _ (sym (every_append is_declaration a b) ∙ g.declarations)).0;
        resolved = or_front (fault_in [] (flat a)) _ (sym resolves_append ∙ g.resolved);
        fitting = (and_true (defaults_fit [] a) _ (sym (fitting_append [] a b) ∙ g.fitting)).0;
      }

pub cut_good : (ds : List (List Row)) (k : ℕ) → Good ds → Good (take k ds)
cut_good ds k g = front_good (take k ds) (drop k ds) (rw (take-append-drop k ds) g)

module _ (ds : List (List Row)) (d : List Row) (g : Good ds) (few : length ds < declaration_limit) (rows : length (flat ds) + length d ≤ row_limit) (strings : length (texts (flat ds)) + length (texts d) ≤ string_limit) (e : is_declaration d ≡ true) where
  more_declarations : every is_declaration (ds ++ (d ∷ [])) ≡ true
  unfolding every
  more_declarations = every_append is_declaration ds (d ∷ []) ∙ rw (g.declarations, e)

  -- memory can hold one declaration more: what 22, 23 and 24 and the rules ask
  pub more_within : Within (ds ++ (d ∷ []))
  unfolding flat
  more_within =
      let n = length-append ds (d ∷ []) in
      let a : flat (ds ++ (d ∷ [])) ≡ flat ds ++ d = flat_append ds (d ∷ []) ∙ ap (λ (x : List Row). flat ds ++ x) (append-nil d) in
      let k : length (flat (ds ++ (d ∷ []))) ≡ length (flat ds) + length d = ap length a ∙ length-append (flat ds) d in
      let t : length (texts (flat (ds ++ (d ∷ [])))) ≡ length (texts (flat ds)) + length (texts d) = ap (λ (x : List Row). length (texts x)) a ∙ ap length (texts_append (flat ds) d) ∙ length-append (texts (flat ds)) (texts d) in
      record {
        declarations = omega arith;
        rows = omega arith;
        strings = omega arith;
        numbers = declarations_fit (ds ++ (d ∷ [])) more_declarations (omega arith);
      }

  -- and the set is good: what 25 and 26, and 47 ask
  pub more_good : fault_in (flat ds) d ≡ Ok tt → misfit_in (flat ds ++ d) d ≡ Ok tt → Good (ds ++ (d ∷ []))
  unfolding flat resolves
  more_good f h =
      let r : fault_in [] (flat ds) ≡ Ok tt = resolved_true (fault_in [] (flat ds)) g.resolved in
      record {
        few = more_within.declarations;
        rows = more_within.rows;
        strings = more_within.strings;
        declarations = more_declarations;
        resolved = resolves_append ds (d ∷ []) ∙ rw (r, append-nil d, f);
        fitting = fitting_more ds d g.fitting h;
      }
