-- What makes the automaton believable. Assumes nothing.
-- 1. Every state that is not dead has a completion that is accepted (`completion`). So the fault stands at the first byte after the longest prefix that some
--    accepted text has: a completion of the prefix exists, and none of the prefix with that byte (`first_fault`).
-- 3. The run over a ++ b is the run over b from the state after a (`run_over`).
-- And where refusal 3 stands 64 brackets are open, and a value may begin with the bracket there (`third`).
-- The second theorem, that what is accepted is exactly the grammar of RFC 8259, is the crate `grammar`, which says the first in the grammar's words too.
use mathlib.Core.Path.{◌≡◌, ap, ◌∙◌}
use mathlib.Core.List.{List, ◌++◌}
use Prim.Native.Nat.{ℕ}
use Rattle.std.specs.Prelude.{Ok}
use Rattle.answer.specs.declared.refusal.Why.{Why}
use Rattle.answer.specs.declared.refusal.Why.TheVariants.{NestedTooDeep}
use Rattle.json_scan.specs.Json.{Mode, Stack, fault, verdict, State, live, start, reach, run_from}
use Rattle.json_scan.proofs.Parts.{run_parts, verdict_parts}
use Rattle.json_scan.proofs.Completion.{live_shaped, completed}
use Rattle.json_scan.proofs.Longest.{Longest, longest_prefix}
use Rattle.json_scan.proofs.Depth.{Deep, deep}

pub completion : (a : List ℕ) (m : Mode) (k : Stack) (p : ℕ) → reach start a ≡ live m k p → (s : List ℕ) × (verdict (a ++ s) ≡ Ok tt)
completion a m k p h =
    let W = completed m k (live_shaped a m k p h) in
    (W.0, verdict_parts a W.0 ∙ ap (λ (s : State). run_from s W.0) h ∙ W.1 p)

pub first_fault : (t : List ℕ) (w : Why) (p : ℕ) → verdict t ≡ fault w p → Longest t w p
first_fault = longest_prefix

pub run_over : (s : State) (a b : List ℕ) → run_from s (a ++ b) ≡ run_from (reach s a) b
run_over s a b = run_parts a b s

pub third : (t : List ℕ) (p : ℕ) → verdict t ≡ fault NestedTooDeep p → Deep t p
third = deep
