-- The scan held against RFC 8259. Assumes nothing.
-- 2. What is accepted with nesting at most 64 is exactly the grammar, in both directions (`accepted_is_grammar`, `grammar_is_accepted`); and what the scan
--    finds whole is exactly that of at most 32,768 bytes (`scanned_is_grammar`, `grammar_is_scanned`).
-- 1. In the grammar's words: 2 stands at the first byte after the longest prefix that some JSON text has, of whatever nesting (`not_json`);
--    3 stands at an opening bracket nested 65 deep, where that byte is not already 2 (`too_deep`).
use mathlib.Core.Path.{◌≡◌, sym, ap, subst, ◌∙◌}
use mathlib.Core.Logic.{◌⊎◌, inl, inr, ⊎_elim}
use mathlib.Core.List.{List, [], ◌∷◌, ◌++◌, append_assoc}
use Prim.Native.Nat.{ℕ, suc, ◌+◌, ◌≤◌, ◌<◌}
use native.Mathlib.Omega.{arith}
use lib.ListN.{length, take, length-append}
use lib.Seq.{take_at}
use Rattle.std.specs.Prelude.{Ok, Err}
use Rattle.answer.specs.declared.refusal.Why.{Why}
use Rattle.answer.specs.declared.refusal.Why.TheVariants.{TextTooLong, NotJson, NestedTooDeep}
use Rattle.json_scan.specs.Json.{Mode, Stack, Bracket, square, brace, val, first, done, key0, key, colon, word, num, str, longest, deepest, fault, run, verdict, scanned, start, live, reach, Verdict}
use Rattle.json_scan.specs.Meets.{closer}
use Rattle.json_scan.proofs.Laws.{split, too_long, not_too_long}
use Rattle.json_scan.proofs.Completion.{closers}
use Rattle.json_scan.proofs.Longest.{Longest, longest_prefix}
use Rattle.json_scan.proofs.Depth.{Opens, Begins, Deep, deep}
use Rattle.grammar.specs.Grammar.{Byte, bytes, join, this, that, none, JSON_text}
use Rattle.grammar.proofs.Endings.{ending_of, ending_run, whole_of, fault_of_lem}
use Rattle.grammar.proofs.Values.{text_ending}
use Rattle.grammar.proofs.Bracketed.{opener}
use Rattle.grammar.proofs.Rests.{After, over, close, Left}
use Rattle.grammar.proofs.Nesting.{deeper}
use Rattle.grammar.proofs.Derived.{left_of_lem, left_reach, text_of, a_bracketed}

-- what the automaton reads as a value within the brackets k is white space, a value of the grammar, and what may follow it there
pub read_is_grammar : (s : List ℕ) (k : Stack) (p : ℕ) → run val k p s ≡ Ok tt → Left deepest val k s
read_is_grammar s k p h = left_of_lem deepest (omega arith) s val k (sym (ending_run s val k p) ∙ ap ending_of h)

pub accepted_is_grammar : (t : List ℕ) → verdict t ≡ Ok tt → JSON_text deepest t
unfolding verdict
accepted_is_grammar t h = text_of deepest (read_is_grammar t [] 0 h)

-- a text of the grammar with nesting at most n is accepted where n is at most 64
pub nested_is_accepted : (n : ℕ) → n ≤ deepest → (t : List ℕ) → JSON_text n t → verdict t ≡ Ok tt
nested_is_accepted n l t d = ⊎_elim (λ e. whole_of t e) (λ e. absurd e.1) (text_ending {Too = ⊥} n (inl l) d)

pub grammar_is_accepted : (t : List ℕ) → JSON_text deepest t → verdict t ≡ Ok tt
grammar_is_accepted t d = nested_is_accepted deepest (omega arith) t d

no_scan : (w : Why) (p : ℕ) → fault w p ≡ Ok tt → ⊥
no_scan w p h = let z : ◌≡◌ {A = ℕ} 0 1 = cc in omega arith

pub scanned_is_grammar : (t : List ℕ) → scanned t ≡ Ok tt → (length t ≤ longest) × JSON_text deepest t
scanned_is_grammar t h =
    ⊎_elim (λ l. absurd (no_scan TextTooLong longest (sym (too_long t l) ∙ h))) (λ l. (l, accepted_is_grammar t (sym (not_too_long t l) ∙ h))) (split longest (length t))

pub grammar_is_scanned : (t : List ℕ) → length t ≤ longest → JSON_text deepest t → scanned t ≡ Ok tt
grammar_is_scanned t l d = not_too_long t l ∙ grammar_is_accepted t d

-- a text that nests at most n deep nests at most n + 1 deep
pub one_deeper : (n : ℕ) (t : List ℕ) → JSON_text n t → JSON_text (suc n) t
one_deeper n t d = deeper n d

-- a JSON text of any nesting is accepted, or refused as too deep
pub json_or_deep : (n : ℕ) (t : List ℕ) → JSON_text n t → (verdict t ≡ Ok tt) ⊎ ((p : ℕ) × (verdict t ≡ fault NestedTooDeep p))
json_or_deep n t d = ⊎_elim (λ e. inl (whole_of t e)) (λ e. inr (fault_of_lem t NestedTooDeep e.0)) (text_ending {Too = Unit {0}} n (inr tt) d)

not_whole : (w : Why) (p : ℕ) → Ok tt ≡ fault w p → ⊥
not_whole w p h = let z : ◌≡◌ {A = ℕ} 0 1 = cc in omega arith

not_deep : (p q : ℕ) → fault NotJson p ≡ fault NestedTooDeep q → ⊥
not_deep p q h = let e : NotJson ≡ NestedTooDeep = ap why_of h in apart e
  where
    why_of : Verdict → Why
    why_of (Ok u) = NotJson
    why_of (Err f) = f.why

    apart : NotJson ≡ NestedTooDeep → ⊥
    apart e = let z : ◌≡◌ {A = ℕ} 0 1 = cc in omega arith

no_json : (t : List ℕ) (p : ℕ) → verdict t ≡ fault NotJson p → (n : ℕ) → JSON_text n t → ⊥
no_json t p h n d = ⊎_elim (λ e. not_whole NotJson p (sym e ∙ h)) (λ e. not_deep p e.0 (sym h ∙ e.1)) (json_or_deep n t d)

-- refusal 2 at p
pub record NotJsonAt (t : List ℕ) (p : ℕ) : Type 0 where
  -- p is a byte of the text, or its length
  pub within : p ≤ length t
  -- some JSON text begins with the bytes before p
  pub before : (s : List ℕ) × JSON_text deepest (take p t ++ s)
  -- no JSON text, of whatever nesting, begins with the bytes up to and with p
  pub none_with : p < length t → (n : ℕ) (u : List ℕ) → JSON_text n (take (suc p) t ++ u) → ⊥
  -- and the text is none
  pub none_is : (n : ℕ) → JSON_text n t → ⊥

pub not_json : (t : List ℕ) (p : ℕ) → verdict t ≡ fault NotJson p → NotJsonAt t p
not_json t p h =
    let L = longest_prefix t NotJson p h in
    record {
      within = L.low;
      before = (L.before.0, accepted_is_grammar (take p t ++ L.before.0) L.before.1);
      none_with = λ l n u. no_json (take (suc p) t ++ u) p (L.none l u) n;
      none_is = no_json t p h;
    }

-- refusal 3 at p
pub record TooDeepAt (t : List ℕ) (p : ℕ) : Type 0 where
  pub within : p < length t
  -- some JSON text begins with the bytes before p, and after them 64 brackets are open
  pub before : (s : List ℕ) × JSON_text deepest (take p t ++ s)
  pub mode : Mode
  pub stack : Stack
  pub led : reach start (take p t) ≡ live mode stack p
  pub full : length stack ≡ deepest
  -- the byte at p is an opening bracket, and is not 2: some JSON text, nested once more, begins with the bytes up to and with it
  pub byte : ℕ
  pub bracket : Opens byte
  pub at_p : take (suc p) t ≡ take p t ++ byte ∷ []
  pub some_with : (s : List ℕ) × JSON_text (suc deepest) (take (suc p) t ++ s)
  -- but none that nests at most 64 deep
  pub none_with : (u : List ℕ) → JSON_text deepest (take (suc p) t ++ u) → ⊥
  pub none_is : JSON_text deepest t → ⊥

-- the brackets that are open, closed
closed_after : (limit : ℕ) (k : Stack) → After limit k (closers k)
unfolding closers
closed_after limit [] = over
closed_after limit (x ∷ k) = close (closed_after limit k)

-- an opening bracket, closed at once, where a value may begin
module _ (b : ℕ) (x : Bracket) (o : Byte (opener x) (b ∷ [])) (limit : ℕ) (k : Stack) (h : length k < limit) where
  empty_left : (m : Mode) → Begins m → Left limit m k (b ∷ closer x ∷ closers k)
  empty_left val g = join none (a_bracketed x k o h (join none (this (join bytes (closed_after limit k)))))
  empty_left first g = in_array k h
    where
      in_array : (l : Stack) → length l < limit → Left limit first l (b ∷ closer x ∷ closers l)
      in_array [] i = tt
      in_array (square ∷ l) i = join none (that (a_bracketed x (square ∷ l) o i (join none (this (join bytes (closed_after limit (square ∷ l)))))))
      in_array (brace ∷ l) i = tt
  empty_left done g = absurd g
  empty_left key0 g = absurd g
  empty_left key g = absurd g
  empty_left colon g = absurd g
  empty_left (word y ys) g = absurd g
  empty_left (num n) g = absurd g
  empty_left (str w i) g = absurd g

pub too_deep : (t : List ℕ) (p : ℕ) → verdict t ≡ fault NestedTooDeep p → TooDeepAt t p
too_deep t p h = record {
  within = inside;
  before = (L.before.0, accepted_is_grammar (take p t ++ L.before.0) L.before.1);
  mode = D.mode;
  stack = D.stack;
  led = ap (reach start) so_far ∙ D.led;
  full = D.full;
  byte = D.byte;
  bracket = D.bracket;
  at_p = so_far_with ∙ ap (λ (y : List ℕ). y ++ D.byte ∷ []) (sym so_far);
  some_with = ⊎_elim (λ e. with_bracket square (is_opener 91 e)) (λ e. with_bracket brace (is_opener 123 e)) D.bracket;
  none_with = λ u d. not_whole NestedTooDeep p (sym (grammar_is_accepted (take (suc p) t ++ u) d) ∙ L.none inside u);
  none_is = λ d. not_whole NestedTooDeep p (sym (grammar_is_accepted t d) ∙ h);
}
  where
    D : Deep t p
    D = deep t p h

    L : Longest t NestedTooDeep p
    L = longest_prefix t NestedTooDeep p h

    len : length D.before ≡ p
    len = sym D.place

    inside : p < length t
    inside =
        let e : length t ≡ length D.before + suc (length D.beyond) = ap length D.parts ∙ length-append D.before (D.byte ∷ D.beyond) in
        omega (arith, len)

    len_with : length (D.before ++ D.byte ∷ []) ≡ suc p
    len_with = let e : length (D.before ++ D.byte ∷ []) ≡ length D.before + 1 = length-append D.before (D.byte ∷ []) in omega (arith, len)

    so_far : take p t ≡ D.before
    so_far = ap (take p) D.parts ∙ take_at D.before (D.byte ∷ D.beyond) p len

    so_far_with : take (suc p) t ≡ D.before ++ D.byte ∷ []
    so_far_with =
        ap (take (suc p)) (D.parts ∙ sym (append_assoc D.before (D.byte ∷ []) D.beyond))
        ∙ take_at (D.before ++ D.byte ∷ []) D.beyond (suc p) len_with

    is_opener : (x : ℕ) → D.byte ≡ x → Byte x (D.byte ∷ [])
    is_opener x e = subst (λ (y : ℕ). Byte x (y ∷ [])) (sym e) bytes

    with_bracket : (x : Bracket) → Byte (opener x) (D.byte ∷ []) → (s : List ℕ) × JSON_text (suc deepest) (take (suc p) t ++ s)
    with_bracket x o =
        let s = closer x ∷ closers D.stack in
        let f : length D.stack ≡ deepest = D.full in (
          s,
          subst (λ (y : List ℕ). JSON_text (suc deepest) y)
              (sym (ap (λ (y : List ℕ). y ++ s) so_far_with ∙ append_assoc D.before (D.byte ∷ []) s))
              (text_of (suc deepest)
              (left_reach (suc deepest) (omega arith) D.before val [] 0 D.mode D.stack p D.led (D.byte ∷ s)
              (empty_left D.byte x o (suc deepest) D.stack (omega arith) D.mode D.begins))),
        )
