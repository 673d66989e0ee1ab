-- A walk stays inside the bytes, and what it accepts it accepts alike where more bytes stand behind.
-- Assumes nothing.
use Rattle.std.specs.Prelude.{Result, Ok, Err}
use mathlib.Core.Path.{◌≡◌, refl, ap, ◌∙◌}
use mathlib.Core.Bool.{Bool, true, false}
use mathlib.Core.List.{List, [], ◌∷◌, ◌++◌}
use Prim.Native.Nat.{ℕ, zero, suc, ◌+◌, ◌≤◌}
use native.Mathlib.Omega.{arith}
use lib.Dec.{leb}
use lib.ListN.{length, length-append, get_or-append}
use borrow.Author.Tests.{le-leb, lt-ltb, leb-true, ltb-true}
use Rattle.answer.specs.declared.refusal.Why.{Why}
use Rattle.ground.specs.Bytes.{byte_at}
use Rattle.ground.proofs.Laws.{never}
use Rattle.binary.specs.Numbers.{Number, long_at, absolute}
use Rattle.binary.specs.declared.number.NumberError.TheVariants.{Cut, Wrong}
use Rattle.binary.proofs.Laws.{int_inside, long_inside, int_longer, long_longer}
use Rattle.row.specs.Rows.{Row}
use Rattle.row.specs.declared.kind.Kind.{Kind}
use Rattle.row.specs.declared.kind.Kind.TheVariants.{Null, Boolean, Int, Long, Float, Double, Bytes, String, Reference, Array, Map, Union, Record, Enum, Fixed, Field, Symbol, Alias, FieldAlias}
use Rattle.walk.specs.Walk.{Stand, Outcome, went, stopped, Item, datum, blocks, pick, and_then, times, moved_to, giving, spent, is_size, passed, on_number, on_int, on_long, flag, counted, chosen, key, ended, in_turn, entry, plain_block, sized_block, block, header, kind_datum, one_item, visit, steps, walked}

-- the first outcome stands inside the bytes and the second is the same; of what was stopped nothing is said
pub data Longer (bytes : List ℕ) : Outcome → Outcome → Type 0 where
  both : {h : Stand} → h.at ≤ length bytes → Longer bytes (went h) (went h)
  off : {w : Why} {p : ℕ} {o : Outcome} → Longer bytes (stopped w p) o

module _ (bytes more : List ℕ) where
  length_longer : length (bytes ++ more) ≡ length bytes + length more
  length_longer = length-append bytes more

  -- the same test
  longer_pick : {a b c d : Outcome} (t : Bool) → Longer bytes a c → Longer bytes b d → Longer bytes (pick t a b) (pick t c d)
  unfolding pick
  longer_pick true x y = x
  longer_pick false x y = y

  -- what fails a test is stopped
  longer_if : {a o : Outcome} (t : Bool) (w : Why) (p : ℕ) → (t ≡ true → Longer bytes a o) → Longer bytes (pick t a (stopped w p)) o
  unfolding pick
  longer_if true w p h = h refl
  longer_if false w p h = off

  longer_true : {a : Outcome} (u : Bool) (c d : Outcome) → u ≡ true → Longer bytes a c → Longer bytes a (pick u c d)
  unfolding pick
  longer_true true c d e x = x
  longer_true false c d e x = never e

  longer_then : {o o' : Outcome} (g g' : Stand → Outcome) → Longer bytes o o' → ((k : Stand) → k.at ≤ length bytes → Longer bytes (g k) (g' k))
      → Longer bytes (and_then o g) (and_then o' g')
  unfolding and_then
  longer_then g g' (both {h = k} l) f = f k l
  longer_then g g' off f = off

  longer_times : (g g' : Stand → Outcome) → ((k : Stand) → k.at ≤ length bytes → Longer bytes (g k) (g' k)) → (n : ℕ) (h : Stand) → h.at ≤ length bytes
      → Longer bytes (times g n h) (times g' n h)
  unfolding times
  longer_times g g' f zero h l = both {h = h} l
  longer_times g g' f (suc n) h l = longer_then _ _ (f h l) (λ k m. longer_times g g' f n k m)

  -- a number: one that was read is read again, and ends inside
  longer_number : (m n : Number) (next next' : ℕ → Stand → Outcome) (h : Stand)
      → ((v to : ℕ) → m ≡ Ok (v, to) → (n ≡ Ok (v, to)) × (to ≤ length bytes))
      → ((v : ℕ) (k : Stand) → k.at ≤ length bytes → Longer bytes (next v k) (next' v k))
      → Longer bytes (on_number bytes m next h) (on_number (bytes ++ more) n next' h)
  unfolding on_number moved_to
  longer_number (Ok (v, to)) n next next' h e f = let q = e v to refl in rw q.0 (f v (moved_to to h) q.1)
  longer_number (Err Cut) n next next' h e f = off
  longer_number (Err Wrong) n next next' h e f = off

  longer_int : (next next' : ℕ → Stand → Outcome) (h : Stand) → ((v : ℕ) (k : Stand) → k.at ≤ length bytes → Longer bytes (next v k) (next' v k))
      → Longer bytes (on_int bytes next h) (on_int (bytes ++ more) next' h)
  longer_int next next' h f =
      longer_number _ _ next next' h (λ v to e. (int_longer bytes more h.at v to e, int_inside bytes h.at v to e)) f

  longer_long : (next next' : ℕ → Stand → Outcome) (h : Stand) → ((v : ℕ) (k : Stand) → k.at ≤ length bytes → Longer bytes (next v k) (next' v k))
      → Longer bytes (on_long bytes next h) (on_long (bytes ++ more) next' h)
  longer_long next next' h f =
      longer_number _ _ next next' h (λ v to e. (long_longer bytes more h.at v to e, long_inside bytes h.at v to e)) f

  longer_passed : (n : ℕ) (h : Stand) → Longer bytes (passed bytes n h) (passed (bytes ++ more) n h)
  unfolding passed moved_to
  longer_passed n h =
      longer_if _ _ _ (λ e.
      let l = leb-true (h.at + n) (length bytes) e in
      longer_true _ _ _ (le-leb (h.at + n) (length (bytes ++ more)) (omega (arith, length_longer))) (both {h = moved_to (h.at + n) h} l))

  longer_flag : (h : Stand) → Longer bytes (flag bytes h) (flag (bytes ++ more) h)
  unfolding flag moved_to byte_at
  longer_flag h =
      longer_if _ _ _ (λ e.
      let l = ltb-true h.at (length bytes) e in
      longer_true _ _ _ (lt-ltb h.at (length (bytes ++ more)) (omega (arith, length_longer)))
      (longer_if _ _ _ (λ f. longer_true _ _ _ (ap (λ (x : ℕ). leb x 1) (get_or-append bytes more 0 h.at l) ∙ f) (both {h = moved_to (h.at + 1) h} (omega arith)))))

  longer_counted : (h : Stand) → Longer bytes (counted bytes h) (counted (bytes ++ more) h)
  unfolding counted
  longer_counted h = longer_long _ _ h (λ v k l. longer_pick _ off (longer_passed (absolute v) k))

  longer_chosen : (ps : List (List Row)) (next next' : List Row → Stand → Outcome) (h : Stand)
      → ((p : List Row) (k : Stand) → k.at ≤ length bytes → Longer bytes (next p k) (next' p k)) → Longer bytes (chosen bytes ps next h) (chosen (bytes ++ more) ps next' h)
  unfolding chosen
  longer_chosen ps next next' h f = longer_int _ _ h (λ v k l. longer_pick _ (f _ k l) off)

  longer_key : (type : List Row) (h : Stand) → h.at ≤ length bytes → Longer bytes (key bytes type h) (key (bytes ++ more) type h)
  unfolding key
  longer_key type h l = longer_pick _ (longer_counted h) (both {h = h} l)

  size_longer : (n m : Number) (to : ℕ) → ((v e : ℕ) → n ≡ Ok (v, e) → m ≡ Ok (v, e)) → is_size n to ≡ true → is_size m to ≡ true
  unfolding is_size
  size_longer (Ok (v, e)) m to f q = rw (f v e refl) q
  size_longer (Err Cut) m to f q = never q
  size_longer (Err Wrong) m to f q = never q

  longer_ended : (size : ℕ) (h : Stand) → h.at ≤ length bytes → Longer bytes (ended bytes size h) (ended (bytes ++ more) size h)
  unfolding ended
  longer_ended size h l =
      longer_if _ _ _ (λ e. longer_true _ _ _ (size_longer (long_at bytes size) (long_at (bytes ++ more) size) h.at (λ v k q. long_longer bytes more size v k q) e) (both {h = h} l))

  module _ (go go' : Item → Stand → Outcome) (f : (i : Item) (k : Stand) → k.at ≤ length bytes → Longer bytes (go i k) (go' i k)) where
    longer_turn : (ps : List (List Row)) (h : Stand) → h.at ≤ length bytes → Longer bytes (in_turn go ps h) (in_turn go' ps h)
    unfolding in_turn
    longer_turn [] h l = both {h = h} l
    longer_turn (p ∷ ps) h l = longer_then _ _ (f (datum p) h l) (λ k m. longer_turn ps k m)

    longer_entry : (type : List Row) (h : Stand) → h.at ≤ length bytes → Longer bytes (entry bytes go type h) (entry (bytes ++ more) go' type h)
    unfolding entry
    longer_entry type h l = longer_then _ _ (longer_key type h l) (λ k m. f _ k m)

    longer_entries : (type : List Row) (n : ℕ) (h : Stand) → h.at ≤ length bytes
        → Longer bytes (times (λ k. entry bytes go type k) n h) (times (λ k. entry (bytes ++ more) go' type k) n h)
    longer_entries type n h l = longer_times _ _ (λ k m. longer_entry type k m) n h l

    longer_plain : (type : List Row) (n : ℕ) (h : Stand) → h.at ≤ length bytes → Longer bytes (plain_block bytes go type n h) (plain_block (bytes ++ more) go' type n h)
    unfolding plain_block
    longer_plain type n h l = longer_then _ _ (longer_entries type n h l) (λ k m. f _ k m)

    longer_sized : (type : List Row) (n size : ℕ) (h : Stand) → h.at ≤ length bytes
        → Longer bytes (sized_block bytes go type n size h) (sized_block (bytes ++ more) go' type n size h)
    unfolding sized_block
    longer_sized type n size h l = longer_then _ _ (longer_entries type n h l) (λ k m. longer_then _ _ (longer_ended size k m) (λ j p. f _ j p))

    longer_block : (type : List Row) (v : ℕ) (h : Stand) → h.at ≤ length bytes → Longer bytes (block bytes go type v h) (block (bytes ++ more) go' type v h)
    unfolding block
    longer_block type v h l =
        longer_pick _ (longer_long _ _ h (λ z k m. longer_sized type (absolute v) h.at k m)) (longer_plain type (absolute v) h l)

    longer_header : (type : List Row) (h : Stand) → Longer bytes (header bytes go type h) (header (bytes ++ more) go' type h)
    unfolding header
    longer_header type h = longer_long _ _ h (λ v k l. longer_pick _ (both {h = k} l) (longer_block type v k l))

    module _ (rows : List Row) where
      longer_kind : (kind : Kind) (r : Row) (rest : List Row) (h : Stand) → h.at ≤ length bytes
          → Longer bytes (kind_datum rows bytes go kind r rest h) (kind_datum rows (bytes ++ more) go' kind r rest h)
      unfolding kind_datum giving
      longer_kind Null r rest h l = both {h = h} l
      longer_kind Boolean r rest h l = longer_flag h
      longer_kind Int r rest h l = longer_int _ _ h (λ v k m. both {h = k} m)
      longer_kind Long r rest h l = longer_long _ _ h (λ v k m. both {h = k} m)
      longer_kind Float r rest h l = longer_passed 4 h
      longer_kind Double r rest h l = longer_passed 8 h
      longer_kind Bytes r rest h l = longer_counted h
      longer_kind String r rest h l = longer_counted h
      longer_kind Fixed r rest h l = longer_passed r.size h
      longer_kind Enum r rest h l = longer_chosen _ _ _ h (λ p k m. both {h = k} m)
      longer_kind Union r rest h l = longer_chosen _ _ _ h (λ p k m. f (datum p) (giving k) m)
      longer_kind Reference r rest h l = f _ h l
      longer_kind Record r rest h l = longer_turn _ h l
      longer_kind Field r rest h l = f _ (giving h) l
      longer_kind Array r rest h l = f _ h l
      longer_kind Map r rest h l = f _ h l
      longer_kind Symbol r rest h l = both {h = h} l
      longer_kind Alias r rest h l = both {h = h} l
      longer_kind FieldAlias r rest h l = both {h = h} l

      longer_item : (i : Item) (h : Stand) → h.at ≤ length bytes → Longer bytes (one_item rows bytes go i h) (one_item rows (bytes ++ more) go' i h)
      unfolding one_item
      longer_item (datum []) h l = both {h = h} l
      longer_item (datum (r ∷ rest)) h l = longer_kind r.kind r rest h l
      longer_item (blocks type) h l = longer_header type h

  module _ (rows : List Row) where
    longer_visit : (f : ℕ) (i : Item) (h : Stand) → h.at ≤ length bytes → Longer bytes (visit rows bytes f i h) (visit rows (bytes ++ more) f i h)
    unfolding visit spent
    longer_visit zero i h l = off
    longer_visit (suc f) i h l = longer_pick _ off (longer_item _ _ (λ j k m. longer_visit f j k m) rows i (spent h) l)

    pub longer_walk : (type : List Row) (at : ℕ) → at ≤ length bytes → Longer bytes (walked rows bytes type at) (walked rows (bytes ++ more) type at)
    unfolding walked
    longer_walk type at l = longer_visit steps (datum type) _ l

-- ---- as theorems

went_at : Outcome → ℕ
went_at (went h) = h.at
went_at (stopped w p) = 0

inside : (bytes : List ℕ) {o o' : Outcome} {h : Stand} → Longer bytes o o' → o ≡ went h → (h.at ≤ length bytes) × (o' ≡ went h)
unfolding went_at
inside bytes {o} {o'} {h} (both {h = k} l) e = let z : k.at ≡ h.at = ap went_at e in (omega arith, e)
inside bytes off e = let z : ◌≡◌ {A = ℕ} 0 1 = cc in absurd (omega arith)

module _ (rows : List Row) (bytes : List ℕ) (type : List Row) (at : ℕ) (l : at ≤ length bytes) (h : Stand) (e : walked rows bytes type at ≡ went h) where
  -- a walk ends inside the bytes
  pub walk_inside : h.at ≤ length bytes
  walk_inside = (inside bytes (longer_walk bytes [] rows type at l) e).0

  -- and ends there with the same offsets whatever stands behind
  pub walk_longer : (more : List ℕ) → walked rows (bytes ++ more) type at ≡ went h
  walk_longer more = (inside bytes (longer_walk bytes more rows type at l) e).1
