-- What was read, as one number. Assumes nothing.
use Rattle.std.specs.Prelude.{Ok, Err}
use mathlib.Core.Path.{◌≡◌, sym, ap, ◌∙◌}
use mathlib.Core.List.{List}
use Prim.Native.Nat.{ℕ}
use Rattle.answer.specs.declared.counts.Counts.{Counts}
use Rattle.answer.specs.declared.refusal.Fault.{Fault}
use Rattle.answer.specs.Limits.{no_counts}
use Rattle.schema.specs.Out.{Out, refused, read, Walked}
use Rattle.schema.specs.Did.{Did}
use borrow.Author.Tests.{ne_eqb}
use Rattle.answer.specs.declared.refusal.Refusal.{Refusal}
use Rattle.answer.specs.Numbers.{number_of}
use Rattle.answer.specs.Answers.{of_refusal, numbers_of, Answer}
use Rattle.answer.proofs.Laws.{never_zero}
use Rattle.canonical.specs.Calls.{numbers_of_written}
use Rattle.summary.specs.Calls.{numbers_of_offsets}
use Rattle.bench_calls.specs.Places.{rows_read, rows_in, length_in, offsets_in}

-- the rows of an answer, 0 where it is a refusal
abbrev rows_of : Walked → ℕ
rows_of (Ok c) = c.rows
rows_of (Err f) = 0

rows_read_lem : (m m' : List ℕ) (r : Walked) (o : Out) → Did m no_counts m' r o → rows_of r ≡ rows_read o
rows_read_lem m m' r (refused f) d = ap rows_of d.did
rows_read_lem m m' r (read rows) d = ap rows_of d.did.0

pub when_read : {m m' : List ℕ} {r : Walked} {o : Out} {c : Counts} → Did m no_counts m' r o → r ≡ Ok c → c.rows ≡ rows_read o
when_read {m} {m'} {r} {o} d e = sym (ap rows_of e) ∙ rows_read_lem m m' r o d

pub when_bad : {m m' : List ℕ} {r : Walked} {o : Out} {f : Fault} → Did m no_counts m' r o → r ≡ Err f → 0 ≡ rows_read o
when_bad {m} {m'} {r} {o} d e = sym (ap rows_of e) ∙ rows_read_lem m m' r o d

-- a refusal has no rows, no length and no offsets
no_rows : (r : Refusal) → rows_in (of_refusal r) ≡ 0
no_rows r = rw (ne_eqb (number_of r.why) 0 (never_zero r.why))

no_length : (r : Refusal) → length_in (of_refusal r) ≡ 0
no_length r = rw (ne_eqb (number_of r.why) 0 (never_zero r.why))

no_offsets : (r : Refusal) → offsets_in (of_refusal r) ≡ 0
no_offsets r = rw (ne_eqb (number_of r.why) 0 (never_zero r.why))

pub rows_none : {a : Answer Counts} {r : Refusal} → a ≡ Err r → 0 ≡ rows_in (numbers_of a)
rows_none {r = r} e = sym (ap (λ (x : Answer Counts). rows_in (numbers_of x)) e ∙ no_rows r)

pub length_none : {w : Answer ℕ} {r : Refusal} → w ≡ Err r → 0 ≡ length_in (numbers_of_written w)
length_none {r = r} e = sym (ap (λ (x : Answer ℕ). length_in (numbers_of_written x)) e ∙ no_length r)

pub offsets_none : {o : Answer (ℕ × ℕ)} {r : Refusal} → o ≡ Err r → 0 ≡ offsets_in (numbers_of_offsets o)
offsets_none {r = r} e = sym (ap (λ (x : Answer (ℕ × ℕ)). offsets_in (numbers_of_offsets x)) e ∙ no_offsets r)
