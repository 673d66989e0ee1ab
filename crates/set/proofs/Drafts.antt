-- A draft that the walk wrote stands for the rows of the text.
-- Assumes nothing.
use Rattle.std.specs.Prelude.{Ok, Err}
use mathlib.Core.Path.{◌≡◌, refl, sym, ap, ap₂, subst, ◌∙◌}
use mathlib.Core.Bool.{true}
use mathlib.Core.List.{List}
use Prim.Native.Nat.{ℕ, ◌+◌, ◌≤◌, min}
use native.Mathlib.Omega.{arith}
use lib.ListN.{length, length-replicate}
use Rattle.std.specs.Prelude.{Ok, Err}
use Rattle.answer.specs.declared.counts.Counts.{Counts}
use Rattle.answer.specs.declared.refusal.Fault.{Fault}
use Rattle.answer.specs.Limits.{counts_of, no_counts}
use Rattle.json_scan.specs.Json.{scanned, Verdict}
use Rattle.row.specs.Layout.{row_limit, string_limit, layout_length}
use Rattle.row.specs.Rows.{Row, texts}
use Rattle.row.specs.Sets.{zeros, rows_from}
use Rattle.row.specs.Memory.{most, counted_all, pushed_all}
use Rattle.row.proofs.Laws.{counted_all_lem, draft_rows}
use Rattle.schema.specs.Out.{Out, refused, read, Walked}
use Rattle.schema.specs.Schema.{rows_of, on_scan, declared}
use Rattle.schema.specs.Did.{Did}
use Rattle.resolve.specs.Rules.{is_declaration}
use Rattle.kept.proofs.Kept.{kept}
use Rattle.set.specs.Steps.{Drafted, IsDraft, Wrote', Wrote}
use Rattle.resolve.proofs.Laws.{declaration_fits}

-- ---- a text that is read

-- its rows keep the rules
declared_kept : (t : List ℕ) (rows : List Row) → declared t ≡ read rows → is_declaration rows ≡ true
unfolding declared
declared_kept t rows e = go (scanned t) refl e
  where
    go : (s : Verdict) → scanned t ≡ s → on_scan s (rows_of t) ≡ read rows → is_declaration rows ≡ true
    go (Ok u) p q = kept t rows p q
    go (Err f) p q = let o : ◌≡◌ {A = ℕ} 0 1 = cc in absurd (omega arith)

-- ---- an empty draft of the layout's length that a walk left as d

module _ (t d : List ℕ) (r : Walked) {m : List ℕ} (empty : m ≡ zeros layout_length) (did : Did m no_counts d r (declared t)) (same : length d ≡ length m) where
  written : (rows : List Row) → declared t ≡ read rows → r ≡ Ok (counted_all no_counts rows) → d ≡ pushed_all m no_counts rows → Wrote' d r (read rows)
  written rows e p q =
      let k : is_declaration rows ≡ true = declared_kept t rows e in
      let c : Counts = counts_of 0 (min (0 + length rows) most) (min (0 + length (texts rows)) most) in
      let a : counted_all no_counts rows ≡ c = counted_all_lem rows 0 0 0 (omega arith) (omega arith) in (
        c,
        p ∙ ap Ok a,
        record {
          counted = omega arith;
          strings = omega arith;
          kept = k;
          long = same ∙ ap length empty ∙ length-replicate {A = ℕ} layout_length 0;
          fits = λ (h : c.rows ≤ row_limit) (j : c.string_bytes ≤ string_limit).
              (let l : length rows ≤ row_limit = omega arith in
              let v : c.rows ≡ length rows = omega arith in
              (omega arith, ap₂ (λ (b : List ℕ) (i : ℕ). rows_from b i 0) (q ∙ ap (λ (x : List ℕ). pushed_all x no_counts rows) empty) v ∙ draft_rows rows l (omega arith) (declaration_fits rows k l)));
        },
      )

  pub wrote : Wrote d r (declared t)
  wrote = go (declared t) refl did
    where
      go : (o : Out) → declared t ≡ o → Did m no_counts d r o → Wrote d r o
      go (refused f) e x = record { wrote = x.did }
      go (read rows) e x = record { wrote = written rows e x.did.0 x.did.1 }

-- ---- what the answer tells

module _ {d : List ℕ} {r : Walked} where
  pub read_not : (o : Out) → Wrote d r o → {f : Fault} → r ≡ Err f → o ≡ refused f
  read_not (refused g) x e = let y : Err g ≡ Err _ = sym x.wrote ∙ e in cc
  read_not (read rows) x e = let y : Ok x.wrote.0 ≡ Err _ = sym x.wrote.1 ∙ e in let z : ◌≡◌ {A = ℕ} 0 1 = cc in absurd (omega arith)

  pub read_rows : (o : Out) → Wrote d r o → {c : Counts} → r ≡ Ok c → (rows : List Row) × (o ≡ read rows) × Drafted d 0 c.rows c.string_bytes rows
  read_rows (refused g) x e = let y : Err g ≡ Ok _ = sym x.wrote ∙ e in let z : ◌≡◌ {A = ℕ} 0 1 = cc in absurd (omega arith)
  read_rows (read rows) x {c} e =
      let y : Ok x.wrote.0 ≡ Ok c = sym x.wrote.1 ∙ e in
      let z : x.wrote.0 ≡ c = cc in
      (rows, refl, subst (λ (k : Counts). Drafted d 0 k.rows k.string_bytes rows) z x.wrote.2)

  pub is_draft : (o : Out) → Wrote d r o → {c : Counts} → r ≡ Ok c → IsDraft d 0 c.rows c.string_bytes
  is_draft o x e = let w = read_rows o x e in record { rows = w.0; drafted = w.2 }
