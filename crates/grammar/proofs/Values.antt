-- The automaton takes the values of the grammar. Assumes nothing.
use mathlib.Core.Path.{◌≡◌, refl, sym, ap, subst, ◌∙◌}
use mathlib.Core.Bool.{Bool, true, false, cond}
use mathlib.Core.Logic.{◌⊎◌, inl, inr, ⊎_elim}
use mathlib.Core.List.{List, [], ◌∷◌, ◌++◌, append_assoc, append-nil}
use Prim.Native.Nat.{ℕ, zero, suc, ◌+◌, ◌≤◌}
use native.Mathlib.Omega.{arith}
use borrow.Author.Tests.{eq-eqb, ne_eqb, ltb-false}
use lib.Dec.{eqb, ltb}
use lib.ListN.{length}
use Rattle.answer.specs.declared.refusal.Why.TheVariants.{NestedTooDeep}
use Rattle.json_scan.specs.Json.{Mode, Stack, Bracket, square, brace, Move, go, die, step, begin, opens, simple, word_of, number as number-move, one, is_space, deepest, val, first, done, key0, key, colon, word, num, minus, str, as_key, as_value, plain}
use Rattle.json_scan.specs.Meets.{closer, opening, again}
use Rattle.grammar.specs.Grammar.{Bytes, bytes, Byte, ◌·◌, join, this, that, Optional, absent, present, Many, none, more, ws, value_separator, member, value, string, number, false as false-word, null as null_word, true as true-word, JSON_text}
use Rattle.grammar.proofs.Endings.{taken, ending, going}
use Rattle.grammar.proofs.Takes.{Takes, Like, like_then, stepped, take_byte, take_join}
use Rattle.grammar.proofs.Strings.{Spacious, take_ws, take_string}
use Rattle.grammar.proofs.Numbers.{Stops, Follow, ends, stops, Ends, end_after, end_alt, end_taken, end_number}
use Rattle.grammar.proofs.Bracketed.{opener, item, end_bracket, bracketed}

pub val_space : Spacious val
val_space b k h = rw h

first_space : Spacious first
first_space b k h = rw h

pub done_space : Spacious done
done_space b k h = rw h

key0_space : Spacious key0
key0_space b k h = rw h

key_space : Spacious key
key_space b k h = rw h

colon_space : Spacious colon
colon_space b k h = rw h

opening_space : (x : Bracket) → Spacious (opening x)
opening_space square = first_space
opening_space brace = key0_space

again_space : (x : Bracket) → Spacious (again x)
again_space square = val_space
again_space brace = key_space

-- a mode in which a value may begin
pub record Valued (m : Mode) : Type 0 where
  pub space : Spacious m
  pub begins : (b : ℕ) (k : Stack) → is_space b ≡ false → eqb b 93 ≡ false → step m b k ≡ begin b k

pub val_valued : Valued val
val_valued = record { space = val_space; begins = λ b k h g. rw h }

first_valued : Valued first
first_valued = record { space = first_space; begins = λ b k h g. rw (h, g) }

-- a digit begins a number
digit_begins : (b : ℕ) (k : Stack) → 48 ≤ b → b ≤ 57 → begin b k ≡ step (num minus) b k
unfolding simple word_of number-move
digit_begins b k l g =
    simp
    (ne_eqb b 91 (λ x. omega arith), ne_eqb b 123 (λ x. omega arith), ne_eqb b 34 (λ x. omega arith), ne_eqb b 45 (λ x. omega arith), ne_eqb b 116 (λ x. omega arith), ne_eqb b 102 (λ x. omega arith), ne_eqb b 110 (λ x. omega arith))

no_space : (b : ℕ) → 48 ≤ b → is_space b ≡ false
no_space b l = simp (ne_eqb b 32 (λ x. omega arith), ne_eqb b 9 (λ x. omega arith), ne_eqb b 10 (λ x. omega arith), ne_eqb b 13 (λ x. omega arith))

-- ---- what follows a value within brackets stops a number
data Stopping : List ℕ → Type 0 where
  stopping : {b : ℕ} {s : List ℕ} → Stops b → Stopping (b ∷ s)

stopping_on : {a : List ℕ} → Stopping a → (u : List ℕ) → Stopping (a ++ u)
stopping_on (stopping h) u = stopping h

follows : {a : List ℕ} → Stopping a → Follow a
follows (stopping h) = stops h

separates : {c : ℕ} {a : List ℕ} → Stops c → (ws · Byte c · ws) a → Stopping a
separates h (join none (join bytes w)) = stopping h
separates h (join (more (this bytes) w) r) = stopping (record { no_digit = refl; no_point = refl; no_e = refl })
separates h (join (more (that (this bytes)) w) r) = stopping (record { no_digit = refl; no_point = refl; no_e = refl })
separates h (join (more (that (that (this bytes))) w) r) = stopping (record { no_digit = refl; no_point = refl; no_e = refl })
separates h (join (more (that (that (that bytes))) w) r) = stopping (record { no_digit = refl; no_point = refl; no_e = refl })

closer_stops : (x : Bracket) → Stops (closer x)
closer_stops square = record { no_digit = refl; no_point = refl; no_e = refl }
closer_stops brace = record { no_digit = refl; no_point = refl; no_e = refl }

items_stop : (x : Bracket) {P : List ℕ → Type 0} {s e : List ℕ} → Many (value_separator · P) s → end_bracket x e → (u : List ℕ) → Stopping (s ++ (e ++ u))
items_stop x none e u = stopping_on (separates (closer_stops x) e) u
items_stop x {e = e'} (more {t = t} (join {t = i} c d) r) e u =
    stopping_on (stopping_on (stopping_on (separates (record { no_digit = refl; no_point = refl; no_e = refl }) c) i) t) (e' ++ u)

-- ---- words
word_ending : (xs : List ℕ) (x : ℕ) (k : Stack) (u : List ℕ) → ending (word x xs) k (x ∷ (xs ++ u)) ≡ ending done k u
unfolding ending
word_ending [] x k u = stepped (word x []) k x u (ap (λ (y : Bool). one y done k) (eq-eqb x x refl))
word_ending (y ∷ ys) x k u =
    stepped (word x (y ∷ ys)) k x (y ∷ (ys ++ u)) (ap (λ (z : Bool). one z (word y ys) k) (eq-eqb x x refl)) ∙ word_ending ys y k u

-- ---- brackets
module _ {Too : Type 0} where
  take_word : {m : Mode} {k : Stack} (c x : ℕ) (xs : List ℕ) → step m c k ≡ go (word x xs) k → Takes Too (Bytes (c ∷ x ∷ xs)) m k done k
  take_word {m} {k} c x xs h = record { took = λ s d u. on d u }
    where
      on : {s : List ℕ} → Bytes (c ∷ x ∷ xs) s → (u : List ℕ) → Like Too (ending m k (s ++ u)) (ending done k u)
      on bytes u = inl (stepped m k c (x ∷ (xs ++ u)) h ∙ word_ending xs x k u)

  take_open : (x : Bracket) {m : Mode} → Valued m → (k : Stack) → (suc (length k) ≤ deepest) ⊎ Too → Takes Too (Byte (opener x)) m k (opening x) (x ∷ k)
  unfolding ending
  take_open x {m} vm k H = record { took = λ s d u. on d u }
    where
      opens_here : (y : Bracket) → step m (opener y) k ≡ opens y (opening y) k
      opens_here square = vm.begins 91 k refl refl
      opens_here brace = vm.begins 123 k refl refl

      too : ltb (length k) deepest ≡ false → Too
      too h = ⊎_elim (λ (l : suc (length k) ≤ deepest). let g = ltb-false (length k) deepest h in absurd (no l g)) (λ t. t) H
        where
          no : suc (length k) ≤ deepest → deepest ≤ length k → ⊥
          no l g = omega arith

      cases : (y : Bool) → ltb (length k) deepest ≡ y → (u : List ℕ)
          → Like Too (going (cond y (go (opening x) (x ∷ k)) (die NestedTooDeep)) (λ m'' k''. ending m'' k'' u)) (ending (opening x) (x ∷ k) u)
      cases true h u = inl refl
      cases false h u = inr (refl, too h)

      on : {s : List ℕ} → Byte (opener x) s → (u : List ℕ) → Like Too (ending m k (s ++ u)) (ending (opening x) (x ∷ k) u)
      on bytes u = like_then Too (inl (ap (λ (v : Move). going v (λ m'' k''. ending m'' k'' u)) (opens_here x))) (cases (ltb (length k) deepest) refl u)

  take_separator : (x : Bracket) (k : Stack) → Takes Too value_separator done (x ∷ k) (again x) (x ∷ k)
  take_separator square k = take_join (take_ws (square ∷ k) done_space) (take_join (take_byte 44 refl) (take_ws (square ∷ k) val_space))
  take_separator brace k = take_join (take_ws (brace ∷ k) done_space) (take_join (take_byte 44 refl) (take_ws (brace ∷ k) key_space))

  -- the closing bracket, after an item and after the opening one
  take_close : (x : Bracket) (k : Stack) → Takes Too (end_bracket x) done (x ∷ k) done k
  take_close square k = take_join (take_ws (square ∷ k) done_space) (take_join (take_byte 93 refl) (take_ws k done_space))
  take_close brace k = take_join (take_ws (brace ∷ k) done_space) (take_join (take_byte 125 refl) (take_ws k done_space))

  take_close0 : (x : Bracket) (k : Stack) → Takes Too (end_bracket x) (opening x) (x ∷ k) done k
  take_close0 square k = take_join (take_ws (square ∷ k) first_space) (take_join (take_byte 93 refl) (take_ws k done_space))
  take_close0 brace k = take_join (take_ws (brace ∷ k) key0_space) (take_join (take_byte 125 refl) (take_ws k done_space))

  -- the items that follow, and the closing bracket
  module _ (x : Bracket) (k : Stack) (v : List ℕ → Type 0) (I : Ends Too (item x v) (again x) (x ∷ k)) where
    more_items : {s e : List ℕ} → Many (value_separator · item x v) s → end_bracket x e → (u : List ℕ) → Like Too (ending done (x ∷ k) (s ++ (e ++ u))) (ending done k u)
    more_items none e u = (take_close x k).took _ e u
    more_items {e = e'} (more {t = t} (join {s = a} {t = i} c d) r) e u =
        subst (λ (y : List ℕ). Like Too (ending done (x ∷ k) y) (ending done k u)) (sym (append_assoc (a ++ i) t (e' ++ u) ∙ append_assoc a i (t ++ (e' ++ u))))
        (like_then Too ((take_separator x k).took a c (i ++ (t ++ (e' ++ u))))
        (like_then Too (I.ended i d (t ++ (e' ++ u)) (follows (items_stop x r e u))) (more_items r e u)))

    module _ (I0 : Ends Too (item x v) (opening x) (x ∷ k)) where
      take_inner : Takes Too (Optional (item x v · Many (value_separator · item x v)) · end_bracket x) (opening x) (x ∷ k) done k
      take_inner = record { took = λ s d u. on d u }
        where
          on : {s : List ℕ} → (Optional (item x v · Many (value_separator · item x v)) · end_bracket x) s → (u : List ℕ)
              → Like Too (ending (opening x) (x ∷ k) (s ++ u)) (ending done k u)
          on (join absent e) u = (take_close0 x k).took _ e u
          on (join {t = e'} (present (join {s = i} {t = t} d r)) e) u =
              subst (λ (y : List ℕ). Like Too (ending (opening x) (x ∷ k) y) (ending done k u)) (sym (append_assoc (i ++ t) e' u ∙ append_assoc i t (e' ++ u)))
              (like_then Too (I0.ended i d (t ++ (e' ++ u)) (follows (items_stop x r e u))) (more_items r e u))

      take_bracketed : {m : Mode} → Valued m → (suc (length k) ≤ deepest) ⊎ Too → Takes Too (bracketed x v) m k done k
      take_bracketed vm H = take_join (take_join (take_ws k vm.space) (take_join (take_open x vm k H) (take_ws (x ∷ k) (opening_space x)))) take_inner

  -- a member, from a mode that takes its key's quotation mark
  end_member : (v : List ℕ → Type 0) (k : Stack) → Ends Too v val (brace ∷ k) → {m : Mode} → step m 34 (brace ∷ k) ≡ go (str as_key plain) (brace ∷ k)
      → Ends Too (member v) m (brace ∷ k)
  end_member v k E h =
      end_after (take_string as_key (brace ∷ k) h)
      (end_after (take_join (take_ws (brace ∷ k) colon_space) (take_join (take_byte 58 refl) (take_ws (brace ∷ k) val_space))) E)

  -- values that are no brackets
  module _ {m : Mode} (vm : Valued m) (k : Stack) where
    take_false : Takes Too false-word m k done k
    unfolding simple word_of
    take_false = take_word 102 97 (108 ∷ 115 ∷ 101 ∷ []) (vm.begins 102 k refl refl)

    take_null : Takes Too null_word m k done k
    unfolding simple word_of
    take_null = take_word 110 117 (108 ∷ 108 ∷ []) (vm.begins 110 k refl refl)

    take_true : Takes Too true-word m k done k
    unfolding simple word_of
    take_true = take_word 116 114 (117 ∷ 101 ∷ []) (vm.begins 116 k refl refl)

    number_here : Ends Too number m k
    unfolding simple
    number_here = end_number k m (vm.begins 45 k refl refl) (λ b l g. vm.begins b k (no_space b l) (ne_eqb b 93 (λ x. omega arith)) ∙ digit_begins b k l g)

    string_here : Takes Too string m k done k
    unfolding simple
    string_here = take_string as_value k (vm.begins 34 k refl refl)

  -- the room within a bracket, and for it
  inner : (n : ℕ) (k : Stack) (x : Bracket) → (suc n + length k ≤ deepest) ⊎ Too → (n + length (x ∷ k) ≤ deepest) ⊎ Too
  inner n k x H = ⊎_elim (λ (l : suc n + length k ≤ deepest). inl (omega arith)) (λ t. inr t) H

  outer : (n : ℕ) (k : Stack) → (suc n + length k ≤ deepest) ⊎ Too → (suc (length k) ≤ deepest) ⊎ Too
  outer n k H = ⊎_elim (λ (l : suc n + length k ≤ deepest). inl (omega arith)) (λ t. inr t) H

  -- a value whose brackets have room, or else are nested too deep
  pub end_value : (n : ℕ) {m : Mode} → Valued m → (k : Stack) → (n + length k ≤ deepest) ⊎ Too → Ends Too (value n) m k
  unfolding value
  end_value zero vm k H =
      end_alt (end_taken (take_false vm k))
      (end_alt (end_taken (take_null vm k)) (end_alt (end_taken (take_true vm k)) (end_alt (number_here vm k) (end_taken (string_here vm k)))))
  end_value (suc n) vm k H =
      let here = end_value n val_valued (brace ∷ k) (inner n k brace H) in
      end_alt (end_taken (take_false vm k))
      (end_alt (end_taken (take_null vm k))
      (end_alt (end_taken (take_true vm k))
      (end_alt (end_taken (take_bracketed brace k (value n) (end_member (value n) k here refl) (end_member (value n) k here refl) vm (outer n k H)))
      (end_alt
      (end_taken
      (take_bracketed square k (value n) (end_value n val_valued (square ∷ k) (inner n k square H)) (end_value n first_valued (square ∷ k) (inner n k square H)) vm (outer n k H)))
      (end_alt (number_here vm k) (end_taken (string_here vm k)))))))

  -- a text
  pub text_ending : (n : ℕ) → (n ≤ deepest) ⊎ Too → {t : List ℕ} → JSON_text n t → Like Too (ending val [] t) taken
  unfolding ending
  text_ending n H (join {s = a} w (join {s = v} {t = b} d z)) =
      like_then Too ((take_ws [] val_space).took a w (v ++ b))
      (like_then Too
      (subst (λ (y : List ℕ). Like Too (ending val [] (v ++ y)) (ending done [] y)) (append-nil b)
      ((end_value n val_valued [] (⊎_elim (λ (l : n ≤ deepest). inl (omega arith)) (λ x. inr x) H)).ended v d (b ++ []) (after_text z)))
      (subst (λ (y : List ℕ). Like Too (ending done [] y) taken) (append-nil b) ((take_ws [] done_space).took b z [])))
    where
      after_text : {s : List ℕ} → ws s → Follow (s ++ [])
      after_text none = ends
      after_text (more (this bytes) r) = stops (record { no_digit = refl; no_point = refl; no_e = refl })
      after_text (more (that (this bytes)) r) = stops (record { no_digit = refl; no_point = refl; no_e = refl })
      after_text (more (that (that (this bytes))) r) = stops (record { no_digit = refl; no_point = refl; no_e = refl })
      after_text (more (that (that (that bytes))) r) = stops (record { no_digit = refl; no_point = refl; no_e = refl })
