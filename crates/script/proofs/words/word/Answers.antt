-- `script::words::word` meets its contract.
-- Assumes nothing.
use mathlib.Core.Path.{◌≡◌, refl, ◌∙◌, ap}
use mathlib.Core.List.{List, [], ◌∷◌}
use Prim.Native.Nat.{ℕ, zero, suc}
use lib.Dec.{eqb}
use lib.ListN.{get_or}
use Rattle.std.proofs.Common.{rules, tests, Bor}
use Rattle.std.specs.List.{slice_get}
use Rattle.std.specs.Option.{option_map, unwrap_or}
use Rattle.std.specs.Prelude.{Option, Some, None}
use Rattle.std.proofs.lemmas.Iterator.Consumers.{nth_from_yields_List}
use Rattle.std.proofs.lemmas.Iterator.Splits.{YieldsList-from_slice_split}
use Rattle.script.specs.Words.{words_of, word_at}
use Rattle.script.proofs.words.word.Goals as goal

got : (parts : List (List ℕ)) (n : ℕ) → unwrap_or (slice_get parts n) [] ≡ get_or parts n []
got [] zero = refl
got [] (suc n) = refl
got (w ∷ ws) zero = refl
got (w ∷ ws) (suc n) = got ws n

read : (r : Option (Bor (List ℕ))) (d q : Bor (List ℕ)) → q ≡ unwrap_or r d → d.now ≡ [] → q.now ≡ unwrap_or (option_map (λ (x : Bor (List ℕ)). x.now) r) []
read None d q e f = ap (λ (x : Bor (List ℕ)). x.now) e ∙ f
read (Some x) d q e f = ap (λ (x : Bor (List ℕ)). x.now) e

pub returns : goal.returns
unfolding word_at words_of
returns c =
    let r = nth_from_yields_List c.nth.result c.nth.new.self c.args.n c.nth.ensures.ran (YieldsList-from_slice_split _ (λ b. eqb b 32) c.args.line.now c.split.ensures.rest c.split.ensures.done c.split.ensures.closure (λ x b q k. search (rules, tests))) in
    read c.nth.result _ _ c.unwrap_or.ensures refl ∙ ap (λ (o : Option (List ℕ)). unwrap_or o []) r ∙ got (words_of c.args.line.now) c.args.n
