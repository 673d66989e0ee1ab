-- The function is the rule: where a string does not keep a rule of names it breaks it at one place, and that is `breach_at`.
-- Assumes nothing.
use mathlib.Core.Path.{◌≡◌, refl, sym, ap, ◌∙◌}
use mathlib.Core.Bool.{Bool, true, false}
use mathlib.Core.List.{List, [], ◌∷◌, ◌++◌, append_assoc, append-nil}
use Prim.Native.Nat.{ℕ, zero, suc, ◌+◌, ◌≤◌}
use native.Mathlib.Omega.{arith}
use lib.Dec.{eqb}
use lib.ListN.{length}
use borrow.Author.Tests.{eq-eqb, eqb-true, eqb-false}
use Rattle.ground.specs.Ascii.{ascii}
use Rattle.ground.specs.Bytes.{byte_at}
use Rattle.name.specs.Begin.{Begins, can_begin}
use Rattle.name.proofs.Begin.{Lettered}
use Rattle.name.proofs.Parts.{never}
use Rattle.view.specs.Strings.{Part, part_at, is_stop, bytes_from, string_at}
use Rattle.view.proofs.Laws.{past_stop, bytes_stop, bytes_next}
use Rattle.breach.specs.Characters.{size_of, character_at}
use Rattle.breach.specs.Breach.{Characters, none, more, BreaksAt, breach_from, breach_at}
use Rattle.breach.proofs.Letters.{character_small, character_high, character_ahead, size_high}
use Rattle.breach.proofs.Laws.{breach_end, breach_here, breach_on}

-- what begins with more begins with less
shorter : {keeps : List ℕ → Bool} (a b : List ℕ) → Begins keeps (a ++ b) → Begins keeps a
shorter {keeps} a b h = record { rest = b ++ h.rest; whole = sym (ap keeps (append_assoc a b h.rest)) ∙ h.whole }

-- a letter shows that a string can be begun
begun_by : (keeps : List ℕ → Bool) (s : List ℕ) → can_begin keeps s ≡ true → Begins keeps s
unfolding can_begin
begun_by keeps s e = record { rest = ascii "a"; whole = e }

module _ {keeps : List ℕ → Bool} (l : Lettered keeps) (t : List ℕ) (q : ℕ) where
  no_more : (s : List ℕ) → can_begin keeps s ≡ false → Begins keeps s → ⊥
  no_more s e b = never (sym e ∙ l.letter_follows s b)

  -- a character that some name goes on with is one part of the string
  one_part : (before : List ℕ) (p : ℕ) → can_begin keeps (before ++ (character_at t p).bytes) ≡ true → character_at t p ≡ part_at t p
  unfolding can_begin
  one_part before p e = go (eqb (size_of (byte_at t p)) 1) refl
    where
      go : (x : Bool) → eqb (size_of (byte_at t p)) 1 ≡ x → character_at t p ≡ part_at t p
      go true f = character_small t p (eqb-true (size_of (byte_at t p)) 1 f)
      go false f =
          let n = eqb-false (size_of (byte_at t p)) 1 f in
          let r = character_high t p n in
          let h = size_high (byte_at t p) n in
          let w = append_assoc before (byte_at t p ∷ r.0) (ascii "a") in
          let k = l.low before (r.0 ++ ascii "a") (byte_at t p)
          (sym (ap keeps w) ∙ sym (ap (λ (x : List ℕ). keeps ((before ++ x) ++ ascii "a")) r.1) ∙ e) in
          absurd (omega arith)

  -- on the way: the characters up to p, and the rest of the string
  record Way (before : List ℕ) (p : ℕ) : Type 0 where
    characters : Characters t (q + 1) p before
    begun : can_begin keeps before ≡ true
    string : bytes_from t (q + 1) ≡ before ++ bytes_from t p

  module _ (bad : keeps (bytes_from t (q + 1)) ≡ false) where
    at_end : (before : List ℕ) (p : ℕ) → Way before p → is_stop (byte_at t p) ≡ true → BreaksAt keeps t q p
    at_end before p w e = record {
      before = before;
      characters = w.characters;
      begun = begun_by keeps before w.begun;
      broken = λ f b. never (sym f ∙ e);
      ended = λ f. ap keeps (sym (w.string ∙ ap (λ (x : List ℕ). before ++ x) (bytes_stop t p e) ∙ append-nil before)) ∙ bad;
    }

    at_character : (before : List ℕ) (p : ℕ) → Way before p → is_stop (byte_at t p) ≡ false → can_begin keeps (before ++ (character_at t p).bytes) ≡ false → BreaksAt keeps t q p
    at_character before p w e f = record {
      before = before;
      characters = w.characters;
      begun = begun_by keeps before w.begun;
      broken = λ g b. no_more (before ++ (character_at t p).bytes) f b;
      ended = λ g. never (sym e ∙ g);
    }

    further : (before : List ℕ) (p : ℕ) → Way before p → is_stop (byte_at t p) ≡ false → can_begin keeps (before ++ (character_at t p).bytes) ≡ true
        → Way (before ++ (character_at t p).bytes) (character_at t p).next
    further before p w e f = record {
      characters = more w.characters e;
      begun = f;
      string =
          w.string
          ∙ ap (λ (x : List ℕ). before ++ x)
          (bytes_next t p e ∙ ap (λ (x : Part). x.bytes ++ bytes_from t x.next) (sym (one_part before p f)))
          ∙ sym (append_assoc before (character_at t p).bytes (bytes_from t (character_at t p).next));
    }

    arrive : (n : ℕ) (before : List ℕ) (p : ℕ) → Way before p → length t ≤ n + p → BreaksAt keeps t q (breach_from keeps t n before p)
    unfolding breach_from
    arrive zero before p w h = at_end before p w (past_stop t p (omega arith))
    arrive (suc n) before p w h =
        let o = character_ahead t p in
        go (λ v. arrive n (before ++ (character_at t p).bytes) (character_at t p).next v (omega arith)) (is_stop (byte_at t p)) refl
        (can_begin keeps (before ++ (character_at t p).bytes)) refl
      where
        go : (Way (before ++ (character_at t p).bytes) (character_at t p).next → BreaksAt keeps t q (breach_from keeps t n (before ++ (character_at t p).bytes) (character_at t p).next))
            → (x : Bool) → is_stop (byte_at t p) ≡ x → (y : Bool) → can_begin keeps (before ++ (character_at t p).bytes) ≡ y → BreaksAt keeps t q (breach_from keeps t (suc n) before p)
        go on true e y f = rw e (at_end before p w e)
        go on false e false f = rw (e, f) (at_character before p w e f)
        go on false e true f = rw (e, f) (on (further before p w e f))

  module _ (o : byte_at t q ≡ 34) where
    string_is : string_at t q ≡ bytes_from t (q + 1)
    unfolding string_at
    string_is = rw (eq-eqb (byte_at t q) 34 o)

    -- 7 stands where the rule breaks,
    pub breaks : keeps (string_at t q) ≡ false → BreaksAt keeps t q (breach_at keeps t q)
    unfolding breach_at
    breaks e =
        rw (eq-eqb (byte_at t q) 34 o)
        (arrive (sym (ap keeps string_is) ∙ e) (suc (length t)) [] (q + 1) (record { characters = none; begun = l.some; string = refl }) (omega arith))

    led : {p : ℕ} {s : List ℕ} → Characters t (q + 1) p s → Begins keeps s → breach_from keeps t (suc (length t)) [] (q + 1) ≡ breach_from keeps t (suc (length t)) s p
    led none b = refl
    led (more {q = p} {s = s} c e) b =
        led c (shorter s (character_at t p).bytes b) ∙ breach_on keeps t s p e (l.letter_follows (s ++ (character_at t p).bytes) b)

    -- and nowhere else
    pub breaks_there : (p : ℕ) → BreaksAt keeps t q p → p ≡ breach_at keeps t q
    unfolding breach_at
    breaks_there p b = rw (eq-eqb (byte_at t q) 34 o) (sym (led b.characters b.begun ∙ go (is_stop (byte_at t p)) refl (can_begin keeps (b.before ++ (character_at t p).bytes)) refl))
      where
        go : (x : Bool) → is_stop (byte_at t p) ≡ x → (y : Bool) → can_begin keeps (b.before ++ (character_at t p).bytes) ≡ y → breach_from keeps t (suc (length t)) b.before p ≡ p
        go true e y f = breach_end keeps t b.before p e
        go false e false f = breach_here keeps t b.before p f
        go false e true f = absurd (b.broken e (begun_by keeps (b.before ++ (character_at t p).bytes) f))
