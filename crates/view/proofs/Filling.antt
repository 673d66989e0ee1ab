-- Laws of filling the table of ends: the brackets that are open, a byte at a time, and what is noted.
-- Assumes nothing.
use mathlib.Core.Path.{◌≡◌, refl, sym, ap, ◌∙◌}
use mathlib.Core.Bool.{Bool, true, false, cond, ◌||◌}
use mathlib.Core.List.{List}
use Prim.Native.Nat.{ℕ, ◌+◌, ◌-◌, ◌<◌, ◌≤◌}
use native.Mathlib.Omega.{arith}
use native.Mathlib.Decide.{dec_lt}
use lib.Dec.{eqb}
use lib.ListN.{length, get_or, set, replicate, length-set, length-replicate}
use lib.Seq.{set_out, get_or-set_same, get_or-set_other}
use borrow.Author.Tests.{eqb-true, eqb-false}
use Rattle.ground.specs.Bytes.{byte_at}
use Rattle.ground.proofs.Laws.{byte_at_lem}
use Rattle.json_scan.specs.Json.{deepest}
use Rattle.view.specs.Ends.{depth_after, closing_of, end_of}
use Rattle.view.specs.Strings.{is_stop, Plainly}
use Rattle.view.specs.Known.{end_in, Literal, Known, Open, Stack}
use Rattle.view.proofs.Places.{never, in_text}
use Rattle.view.proofs.Closing.{closing_ahead, string_quote, bracket_string, bracket_none, bracket_last, bracket_more, end_string, end_bracket}
use Rattle.view.proofs.Plain.{run_string}

-- ---- one more entry
-- a place of the table holds what it held, or it is the one that is noted
either : (P : ℕ → Type 0) (ends : List ℕ) (a e p : ℕ) → P (end_in ends p) → (p ≡ a → P e) → P (end_in (set ends a e) p)
either P ends a e p old new = go (eqb p a) refl (dec_lt a (length ends))
  where
    go : (x : Bool) → eqb p a ≡ x → Dec (a < length ends) → P (end_in (set ends a e) p)
    go false f l = rw (get_or-set_other ends a p e 0 (eqb-false p a f)) old
    go true f (yes l) = let i = eqb-true p a f in rw (i, get_or-set_same ends a e 0 l) (new i)
    go true f (no n) = rw (set_out ends a e (omega arith)) old

pub known_note : {t ends after : List ℕ} {a e : ℕ} → Known t ends → e ≡ end_of t a → (byte_at t a ≡ 34 → Literal t a e) → after ≡ set ends a e → Known t after
known_note {t} {ends} {after} {a} {e} k f g h =
    rw h (record {
      ended = λ p. either (λ (x : ℕ). 0 < x → x ≡ end_of t p) ends a e p (k.ended p) (λ i l. f ∙ ap (λ (x : ℕ). end_of t x) (sym i));
      literal = λ p. either (λ (x : ℕ). 0 < x → byte_at t p ≡ 34 → Literal t p x) ends a e p (k.literal p) (λ i l. rw i g);
    })

-- ---- a string
module _ (t : List ℕ) (p q : ℕ) (e : get_or t p 0 ≡ 34) (r : Plainly t (p + 1) q) where
  opened : byte_at t p ≡ 34
  opened = byte_at_lem t p ∙ e

  module _ {c : ℕ} (f : c ≡ byte_at t q) (g : c ≡ 34) where
    pub plain_closing : q + 1 ≡ closing_of t 1 0 (p + 1)
    plain_closing = string_quote t q (in_text t q c 34 f g (omega arith)) (sym (byte_at_lem t q) ∙ sym f ∙ g) ∙ r.closing

    noted : Literal t p (q + 1)
    unfolding is_stop
    noted =
        let a = r.ahead in
        let b = in_text t q c 34 f g (omega arith) in
        let n : q + 1 - 1 - (p + 1) ≡ q - (p + 1) = omega arith in
        record { opens = omega arith; closes = omega arith; bytes = rw n (run_string t p q (sym opened) refl r f (rw g)) }

    pub plain_noted : {ends after : List ℕ} → Known t ends → after ≡ set ends p (q + 1) → Known t after
    plain_noted k i = known_note k (plain_closing ∙ end_string t p (byte_at t p) refl opened) (λ _. noted) i

-- ---- how many brackets are open behind a byte
module _ (b x : ℕ) where
  depth_open : (eqb b 91 || eqb b 123) ≡ true → x + 1 ≡ depth_after 0 b x
  unfolding depth_after
  depth_open f = go (eqb b 91) (eqb b 123) _ f
    where
      go : (u v : Bool) (y : ℕ) → (u || v) ≡ true → x + 1 ≡ cond u (x + 1) (cond v (x + 1) y)
      go true v y g = refl
      go false true y g = refl
      go false false y g = never g

  depth_close : (eqb b 93 || eqb b 125) ≡ true → x - 1 ≡ depth_after 0 b x
  unfolding depth_after
  depth_close f = go (eqb b 93) refl (eqb b 125) refl f
    where
      go : (u : Bool) → eqb b 93 ≡ u → (v : Bool) → eqb b 125 ≡ v → (u || v) ≡ true → x - 1 ≡ depth_after 0 b x
      go true g v i h = rw (eqb-true b 93 g)
      go false g true i h = rw (eqb-true b 125 i)
      go false g false i h = never h

  depth_other : (eqb b 91 || eqb b 123) ≡ false → (eqb b 93 || eqb b 125) ≡ false → x ≡ depth_after 0 b x
  unfolding depth_after
  depth_other f g = go (eqb b 91) (eqb b 123) (eqb b 93) (eqb b 125) f g
    where
      go : (u v w z : Bool) → (u || v) ≡ false → (w || z) ≡ false → x ≡ cond u (x + 1) (cond v (x + 1) (cond w (x - 1) (cond z (x - 1) x)))
      go true v w z i j = never (sym i)
      go false true w z i j = never (sym i)
      go false false true z i j = never (sym j)
      go false false false true i j = never (sym j)
      go false false false false i j = refl

-- ---- the brackets that are open
pub stack_start : (t : List ℕ) → Stack t (replicate deepest 0) 0 0
stack_start t = record { room = length-replicate {A = ℕ} deepest 0; few = omega arith; all_open = λ i (l : i < 0) m. absurd (omega arith) }

module _ {t kept : List ℕ} {d p : ℕ} (s : Stack t kept d p) (h : p < length t) where
  -- one byte on, or past a string, with as many open
  stays : (q : ℕ) → p ≤ q → ((x : ℕ) → 0 < x → closing_of t 0 x q ≡ closing_of t 0 x p) → Stack t kept d q
  stays q l f =
      let n = s.few in
      record {
        room = s.room;
        few = omega arith;
        all_open = λ i (a : i < d) b. let o = s.all_open i a b in
            record { within = o.within; no_string = o.no_string; closes = f (d - i) (omega arith) ∙ o.closes };
      }

  pub stack_string : get_or t p 0 ≡ 34 → {q : ℕ} → q ≡ closing_of t 1 0 (p + 1) → Stack t kept d q
  stack_string e {q} f = let a = closing_ahead t 1 0 (p + 1) q f in stays q (omega arith) (λ x l. bracket_string t x p h l e q f)

  module _ (n : get_or t p 0 ≡ 34 → ⊥) where
    pub stack_below : get_or t p 0 < 91 → Stack t kept d (p + 1)
    stack_below k = stays (p + 1) (omega arith) (λ x l. bracket_none t x p h l n k)

    pub stack_other : (eqb (get_or t p 0) 91 || eqb (get_or t p 0) 123) ≡ false → (eqb (get_or t p 0) 93 || eqb (get_or t p 0) 125) ≡ false → Stack t kept d (p + 1)
    stack_other f g = stays (p + 1) (omega arith) (λ x (l : 0 < x). bracket_more t x p h n x (depth_other (get_or t p 0) x f g) (λ (z : x ≡ 0). omega arith))

    -- a bracket that opens stands within the others, which are one deeper
    pub stack_open : (eqb (get_or t p 0) 91 || eqb (get_or t p 0) 123) ≡ true → {after : List ℕ} → after ≡ set kept d p → Stack t after (d + 1) (p + 1)
    stack_open f {after} e =
        let l = s.few in
        let m = s.room in
        record {
          room = ap length e ∙ length-set kept d p ∙ m;
          few = omega arith;
          all_open = λ i (a : i < d + 1) (b : i < deepest). go i a b (dec_lt i d);
        }
      where
        go : (i : ℕ) → i < d + 1 → i < deepest → Dec (i < d) → Open t (get_or after i 0) (d + 1 - i) (p + 1)
        go i a b (yes c) =
            let o = s.all_open i c b in
            let z : d + 1 - i ≡ d - i + 1 = omega arith in
            rw (e, get_or-set_other kept d i p 0 (λ (q : i ≡ d). omega arith), z)
            (record { within = o.within; no_string = o.no_string; closes = bracket_more t (d - i) p h n (d - i + 1) (depth_open (get_or t p 0) (d - i) f) (λ (q : d - i + 1 ≡ 0). omega arith) ∙ o.closes })
        go i a b (no c) =
            let m = s.room in
            let q : i ≡ d = omega arith in
            let z : d + 1 - d ≡ 1 = omega arith in
            rw (e, q, get_or-set_same kept d p 0 (omega arith), z)
            (record { within = h; no_string = λ x. n (sym (byte_at_lem t p) ∙ x); closes = end_bracket t p (get_or t p 0) (sym (byte_at_lem t p)) f })

    module _ (f : (eqb (get_or t p 0) 93 || eqb (get_or t p 0) 125) ≡ true) where
      -- the last that is open closes
      pub stack_close : Stack t kept (d - 1) (p + 1)
      stack_close =
          let l = s.few in
          record {
            room = s.room;
            few = omega arith;
            all_open = λ i (a : i < d - 1) b. let o = s.all_open i (omega arith) b in
                let z : d - 1 - i ≡ d - i - 1 = omega arith in
                rw z (record { within = o.within; no_string = o.no_string; closes = bracket_more t (d - i) p h n (d - i - 1) (depth_close (get_or t p 0) (d - i) f) (λ (q : d - i - 1 ≡ 0). omega arith) ∙ o.closes });
          }

      pub close_noted : {ends after : List ℕ} {a : ℕ} → Known t ends → 0 < d → d - 1 < deepest → a ≡ get_or kept (d - 1) 0 → after ≡ set ends a (p + 1) → Known t after
      close_noted k a b g e =
          let o = s.all_open (d - 1) (omega arith) b in
          let z : d - (d - 1) ≡ 1 = omega arith in
          known_note k (bracket_last t 1 p h n 0 (depth_close (get_or t p 0) 1 f) refl ∙ ap (λ (x : ℕ). closing_of t 0 x p) (sym z) ∙ o.closes ∙ ap (λ (x : ℕ). end_of t x) (sym g)) (λ x. absurd (o.no_string (ap (λ (y : ℕ). byte_at t y) (sym g) ∙ x))) e
