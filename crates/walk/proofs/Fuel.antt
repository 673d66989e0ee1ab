-- Enough is enough: a visit whose bound is at least the steps that are left is a fixed point of `one_item`.
-- Assumes nothing.
use Rattle.std.specs.Prelude.{Ok, Err}
use mathlib.Core.Path.{◌≡◌, refl, ◌∙◌}
use mathlib.Core.Bool.{Bool, true, false}
use mathlib.Core.List.{List, [], ◌∷◌}
use Prim.Native.Nat.{ℕ, zero, suc, ◌+◌, ◌≤◌}
use native.Mathlib.Omega.{arith}
use borrow.Author.Tests.{eq-eqb, ne_eqb}
use Rattle.answer.specs.declared.refusal.Why.{Why}
use Rattle.answer.specs.declared.refusal.Why.TheVariants.{TooManySteps}
use Rattle.ground.proofs.Laws.{never}
use Rattle.binary.specs.Numbers.{Number, absolute}
use Rattle.binary.specs.declared.number.NumberError.TheVariants.{Cut, Wrong}
use Rattle.row.specs.Rows.{Row}
use Rattle.row.specs.declared.kind.Kind.{Kind}
use Rattle.row.specs.declared.kind.Kind.TheVariants.{Null, Boolean, Int, Long, Float, Double, Bytes, String, Reference, Array, Map, Union, Record, Enum, Fixed, Field, Symbol, Alias, FieldAlias}
use Rattle.walk.specs.Walk.{Stand, Outcome, went, stopped, Item, datum, blocks, pick, and_then, times, moved_to, giving, spent, passed, on_number, flag, counted, chosen, key, ended, in_turn, entry, plain_block, sized_block, block, header, kind_datum, one_item, visit}

-- two outcomes are one, and leave at most s steps
data Alike (s : ℕ) : Outcome → Outcome → Type 0 where
  both_went : {h : Stand} → h.left ≤ s → Alike s (went h) (went h)
  both_stopped : {w : Why} {p : ℕ} → Alike s (stopped w p) (stopped w p)

alike_one : {s : ℕ} {o o' : Outcome} → Alike s o o' → o ≡ o'
alike_one (both_went l) = refl
alike_one both_stopped = refl

alike_more : {s t : ℕ} {o o' : Outcome} → s ≤ t → Alike s o o' → Alike t o o'
alike_more h (both_went {h = k} l) = both_went {h = k} (omega arith)
alike_more h both_stopped = both_stopped

alike_pick : {s : ℕ} {a b a' b' : Outcome} (t : Bool) → Alike s a a' → Alike s b b' → Alike s (pick t a b) (pick t a' b')
unfolding pick
alike_pick true x y = x
alike_pick false x y = y

alike_first : {s : ℕ} {a o : Outcome} (t : Bool) (b : Outcome) → t ≡ true → Alike s o a → Alike s o (pick t a b)
unfolding pick
alike_first true b e h = h
alike_first false b e h = never e

alike_then : {s : ℕ} {o o' : Outcome} (g g' : Stand → Outcome) → Alike s o o' → ((k : Stand) → k.left ≤ s → Alike k.left (g k) (g' k))
    → Alike s (and_then o g) (and_then o' g')
unfolding and_then
alike_then g g' (both_went {h = k} l) h = alike_more l (h k l)
alike_then g g' both_stopped h = both_stopped

alike_times : (s : ℕ) (g g' : Stand → Outcome) → ((k : Stand) → k.left ≤ s → Alike k.left (g k) (g' k)) → (n : ℕ) (h : Stand) → h.left ≤ s
    → Alike h.left (times g n h) (times g' n h)
unfolding times
alike_times s g g' e zero h l = both_went {h = h} (omega arith)
alike_times s g g' e (suc n) h l = alike_then _ _ (e h l) (λ k m. alike_times s g g' e n k (omega arith))

module _ (bytes : List ℕ) where
  alike_number : (n : Number) (next next' : ℕ → Stand → Outcome) (h : Stand)
      → ((v : ℕ) (k : Stand) → k.left ≡ h.left → Alike h.left (next v k) (next' v k)) → Alike h.left (on_number bytes n next h) (on_number bytes n next' h)
  unfolding on_number moved_to
  alike_number (Ok (v, to)) next next' h e = e v (moved_to to h) refl
  alike_number (Err Cut) next next' h e = both_stopped
  alike_number (Err Wrong) next next' h e = both_stopped

  alike_passed : (n : ℕ) (h : Stand) → Alike h.left (passed bytes n h) (passed bytes n h)
  unfolding passed moved_to
  alike_passed n h = alike_pick _ (both_went {h = moved_to (h.at + n) h} (omega arith)) both_stopped

  alike_flag : (h : Stand) → Alike h.left (flag bytes h) (flag bytes h)
  unfolding flag moved_to
  alike_flag h = alike_pick _ (alike_pick _ (both_went {h = moved_to (h.at + 1) h} (omega arith)) both_stopped) both_stopped

  alike_counted : (h : Stand) → Alike h.left (counted bytes h) (counted bytes h)
  unfolding counted
  alike_counted h =
      alike_number _ _ _ h (λ v k e. alike_pick _ both_stopped (alike_more (omega (arith, e)) (alike_passed (absolute v) k)))

  alike_key : (type : List Row) (h : Stand) → Alike h.left (key bytes type h) (key bytes type h)
  unfolding key
  alike_key type h = alike_pick _ (alike_counted h) (both_went {h = h} (omega arith))

  alike_ended : (size : ℕ) (h : Stand) → Alike h.left (ended bytes size h) (ended bytes size h)
  unfolding ended
  alike_ended size h = alike_pick _ (both_went {h = h} (omega arith)) both_stopped

  alike_chosen : (ps : List (List Row)) (next next' : List Row → Stand → Outcome) (h : Stand)
      → ((p : List Row) (k : Stand) → k.left ≡ h.left → Alike h.left (next p k) (next' p k)) → Alike h.left (chosen bytes ps next h) (chosen bytes ps next' h)
  unfolding chosen
  alike_chosen ps next next' h e = alike_number _ _ _ h (λ v k f. alike_pick _ (e _ k f) both_stopped)

  -- two that agree up to s steps
  module _ (go go' : Item → Stand → Outcome) (s : ℕ) (agree : (i : Item) (k : Stand) → k.left ≤ s → Alike k.left (go i k) (go' i k)) where
    alike_turn : (ps : List (List Row)) (h : Stand) → h.left ≤ s → Alike h.left (in_turn go ps h) (in_turn go' ps h)
    unfolding in_turn
    alike_turn [] h l = both_went {h = h} (omega arith)
    alike_turn (p ∷ ps) h l = alike_then _ _ (agree (datum p) h l) (λ k m. alike_turn ps k (omega arith))

    alike_entry : (type : List Row) (h : Stand) → h.left ≤ s → Alike h.left (entry bytes go type h) (entry bytes go' type h)
    unfolding entry
    alike_entry type h l = alike_then _ _ (alike_key type h) (λ k m. agree _ k (omega arith))

    alike_entries : (type : List Row) (n : ℕ) (h : Stand) → h.left ≤ s
        → Alike h.left (times (λ k. entry bytes go type k) n h) (times (λ k. entry bytes go' type k) n h)
    alike_entries type n h l = alike_times s _ _ (λ k m. alike_entry type k m) n h l

    alike_plain : (type : List Row) (n : ℕ) (h : Stand) → h.left ≤ s → Alike h.left (plain_block bytes go type n h) (plain_block bytes go' type n h)
    unfolding plain_block
    alike_plain type n h l = alike_then _ _ (alike_entries type n h l) (λ k m. agree _ k (omega arith))

    alike_sized : (type : List Row) (n size : ℕ) (h : Stand) → h.left ≤ s
        → Alike h.left (sized_block bytes go type n size h) (sized_block bytes go' type n size h)
    unfolding sized_block
    alike_sized type n size h l =
        alike_then _ _ (alike_entries type n h l) (λ k m. alike_then _ _ (alike_ended size k) (λ j p. agree _ j (omega arith)))

    alike_block : (type : List Row) (v : ℕ) (h : Stand) → h.left ≤ s → Alike h.left (block bytes go type v h) (block bytes go' type v h)
    unfolding block
    alike_block type v h l =
        alike_pick _
        (alike_number _ _ _ h (λ z k e. alike_more (omega arith) (alike_sized type (absolute v) h.at k (omega arith))))
        (alike_plain type (absolute v) h l)

    alike_header : (type : List Row) (h : Stand) → h.left ≤ s → Alike h.left (header bytes go type h) (header bytes go' type h)
    unfolding header
    alike_header type h l =
        alike_number _ _ _ h (λ v k e. alike_pick _ (both_went {h = k} (omega arith)) (alike_more (omega arith) (alike_block type v k (omega arith))))

    module _ (rows : List Row) where
      alike_kind : (kind : Kind) (r : Row) (rest : List Row) (h : Stand) → h.left ≤ s
          → Alike h.left (kind_datum rows bytes go kind r rest h) (kind_datum rows bytes go' kind r rest h)
      unfolding kind_datum giving
      alike_kind Null r rest h l = both_went {h = h} (omega arith)
      alike_kind Boolean r rest h l = alike_flag h
      alike_kind Int r rest h l = alike_number _ _ _ h (λ v k e. both_went {h = k} (omega arith))
      alike_kind Long r rest h l = alike_number _ _ _ h (λ v k e. both_went {h = k} (omega arith))
      alike_kind Float r rest h l = alike_passed 4 h
      alike_kind Double r rest h l = alike_passed 8 h
      alike_kind Bytes r rest h l = alike_counted h
      alike_kind String r rest h l = alike_counted h
      alike_kind Fixed r rest h l = alike_passed r.size h
      alike_kind Enum r rest h l = alike_chosen _ _ _ h (λ p k e. both_went {h = k} (omega arith))
      alike_kind Union r rest h l =
          alike_chosen _ _ _ h (λ p k e. alike_more (omega arith) (agree (datum p) (giving k) (omega arith)))
      alike_kind Reference r rest h l = agree _ h l
      alike_kind Record r rest h l = alike_turn _ h l
      alike_kind Field r rest h l = agree _ (giving h) l
      alike_kind Array r rest h l = agree _ h l
      alike_kind Map r rest h l = agree _ h l
      alike_kind Symbol r rest h l = both_went {h = h} (omega arith)
      alike_kind Alias r rest h l = both_went {h = h} (omega arith)
      alike_kind FieldAlias r rest h l = both_went {h = h} (omega arith)

      alike_item : (i : Item) (h : Stand) → h.left ≤ s → Alike h.left (one_item rows bytes go i h) (one_item rows bytes go' i h)
      unfolding one_item
      alike_item (datum []) h l = both_went {h = h} (omega arith)
      alike_item (datum (r ∷ rest)) h l = alike_kind r.kind r rest h l
      alike_item (blocks type) h l = alike_header type h l

module _ (rows : List Row) (bytes : List ℕ) where
  visit_alike : (f : ℕ) (i : Item) (h : Stand) → h.left ≤ f → Alike h.left (visit rows bytes f i h) (visit rows bytes (suc f) i h)
  unfolding visit spent
  visit_alike zero i h l = alike_first _ _ (eq-eqb h.left 0 (omega arith)) both_stopped
  visit_alike (suc f) i h l =
      alike_pick _ both_stopped
      (alike_more (omega arith) (alike_item bytes _ _ f (λ j k m. visit_alike f j k m) rows i (spent h) (omega arith)))

  -- no step is left
  pub visit_none : (f : ℕ) (i : Item) (h : Stand) → h.left ≡ 0 → visit rows bytes f i h ≡ stopped TooManySteps h.at
  unfolding visit pick
  visit_none zero i h e = refl
  visit_none (suc f) i h e = rw (eq-eqb h.left 0 e)

  visit_more : (f : ℕ) (i : Item) (h : Stand) → (h.left ≡ 0 → ⊥) → visit rows bytes (suc f) i h ≡ one_item rows bytes (λ j k. visit rows bytes f j k) i (spent h)
  unfolding visit pick
  visit_more f i h n = rw (ne_eqb h.left 0 n)

  -- one step, at the same bound
  pub visit_step : (f : ℕ) (i : Item) (h : Stand) → h.left ≤ f → (h.left ≡ 0 → ⊥)
      → visit rows bytes f i h ≡ one_item rows bytes (λ j k. visit rows bytes f j k) i (spent h)
  visit_step f i h l n = alike_one (visit_alike f i h l) ∙ visit_more f i h n
