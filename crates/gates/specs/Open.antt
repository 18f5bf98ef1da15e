-- How an entry opens: the gate's refusal or, where there is none, what the words and the family tell, each worked out
-- once. An entry of one operand has the header of no variables in the place of the second.
use Rattle.std.specs.Prelude.{ℕ, ◌*◌, ◌≤◌, true, Result, MatchResult, ◌≡◌}
use Rattle.std.proofs.Common.{sym, ◌∙◌, arith}
use Rattle.std.proofs.Math.Path.{ap}
use Rattle.model.specs.declared.Header.{Header}
use Rattle.model.specs.declared.Refusal.{Refusal}
use Rattle.model.specs.declared.Family.{Family}
use Rattle.model.specs.Header.{stored, no_header}
use Rattle.model.specs.Word.{header_of, good_word}
use Rattle.model.specs.Refusals.{ask, no_refusal}
use Rattle.model.specs.Announced.{announced}
use Rattle.model.specs.Gates.{ask_word, full, read_gate, work_gate, in_gate, pair_gate, announced_one, announced_pair}
use Rattle.shape_words.specs.Rules.{Ruled}
use Rattle.shape_words.specs.Words.{good_word_lem}
use Rattle.gates.specs.declared.Opened.{Opened}
use Rattle.model.specs.Passes.{Refuses}
use Rattle.gates.specs.Gate.{one-announced, pair-announced, words-good, read-ready}
use Rattle.gates.specs.Gate.{WorkReady, work-ready, InReady, in-ready, PairReady, pair-ready}

-- a and b the operands' headers, h the announced one
abbrev pub telling : Header → Header → Header → Opened
telling a b h = record { a = a; b = b; told = h; na = stored a; nb = stored b; n = stored h }

-- the headers of two words
pub record AreHeaders (w u : ℕ) (hs : Header × Header) : Type 0 where
  pub left : hs.0 ≡ header_of w
  pub right : hs.1 ≡ header_of u

-- what is told
pub record Tells (a b h : Header) (r : Opened) : Type 0 where
  pub left : r.a ≡ a
  pub right : r.b ≡ b
  pub told : r.told ≡ h
  pub count_a : r.na ≡ stored r.a
  pub count_b : r.nb ≡ stored r.b
  pub count : r.n ≡ stored r.told

-- one operand, not refused: g its gate, f the family, w the word
pub record OneOpen (g : Refusal) (f : Family) (w : ℕ) (r : Opened) : Type 0 where
  pub none : g.number ≡ 0
  pub tells : Tells (header_of w) no_header (announced_one f w) r

abbrev pub OpensOne : Refusal → Family → ℕ → Result Opened Refusal → Type 0
OpensOne g f w r = MatchResult r (OneOpen g f w) (Refuses g)

-- two: w and u the words, m and l the coefficients given, n the places lent for the result, s those of the scratch
pub record PairOpen (f : Family) (w m u l n s : ℕ) (r : Opened) : Type 0 where
  pub none : (pair_gate f w m u l n s).number ≡ 0
  pub tells : Tells (header_of w) (header_of u) (announced_pair f w u) r

abbrev pub Opens : Family → ℕ → ℕ → ℕ → ℕ → ℕ → ℕ → Result Opened Refusal → Type 0
Opens f w m u l n s r = MatchResult r (PairOpen f w m u l n s) (Refuses (pair_gate f w m u l n s))

-- the announced header, by the operands' headers as they were told
pub told-by : (f : Family) {a b : Header} {r : Opened} → Tells a b (announced f a b) r → r.told ≡ announced f r.a r.b
told-by f t = rw (t.left, t.right) t.told

-- not refused: the facts that the gate has tested, and that what is told fits what was given and lent
module _ {g : Refusal} {f : Family} {w : ℕ} {r : Opened} (o : OneOpen g f w r) where
  -- the counts of the operand and of the announced header
  pub one-given : r.na ≡ stored (header_of w)
  one-given = o.tells.count_a ∙ ap stored o.tells.left

  pub one-count : r.n ≡ stored (announced_one f w)
  one-count = o.tells.count ∙ ap stored o.tells.told

module _ {f : Family} {w : ℕ} (m n s : ℕ) {r : Opened} (o : OneOpen (work_gate f w m n s) f w r) where
  pub work-opened : WorkReady f w m n s
  work-opened = work-ready f w m n s o.none

  pub work-fits : (r.na ≤ m) × (r.n ≤ n) × (8 * r.n ≤ s)
  work-fits =
      let g = work-opened in
      let c = one-count o in
      (omega (arith, one-given o, g.one.full), omega (arith, g.one.room), omega (arith, g.spare))

module _ {f : Family} (v d : ℕ) {w : ℕ} (m n : ℕ) {r : Opened} (o : OneOpen (in_gate f v d w m n) f w r) where
  pub in-opened : InReady f v d w m n
  in-opened = in-ready f v d w m n o.none

  pub in-fits : (r.na ≤ m) × (r.n ≤ n)
  in-fits = let g = in-opened in (omega (arith, one-given o, g.one.full), omega (arith, one-count o, g.one.room))

module _ {f : Family} {w m u l n s : ℕ} {r : Opened} (o : PairOpen f w m u l n s r) where
  pub opened-ready : PairReady f w m u l n s
  opened-ready = pair-ready f w m u l n s o.none

  pub opened-count : r.n ≡ stored (announced_pair f w u)
  opened-count = o.tells.count ∙ ap stored o.tells.told

  pub opened-fits : (r.na ≤ m) × (r.nb ≤ l) × (r.n ≤ n) × (8 * r.n ≤ s)
  opened-fits =
      let t = o.tells in
      let g = opened-ready in
      let c = opened-count in (
        omega (arith, t.count_a, ap stored t.left, g.full_a),
        omega (arith, t.count_b, ap stored t.right, g.full_b),
        omega (arith, g.room),
        omega (arith, g.spare),
      )

-- How it is made: of a, b and h as they were worked out.
pub tells-all : {a b h x y k : Header} {r : Opened} → x ≡ a → y ≡ b → k ≡ h → r ≡ telling x y k → Tells a b h r
tells-all ex ey ek s =
    let i = ap (λ (o : Opened). o.a) s in
    let j = ap (λ (o : Opened). o.b) s in
    let l = ap (λ (o : Opened). o.told) s in
    record {
      left = i ∙ ex;
      right = j ∙ ey;
      told = l ∙ ek;
      count_a = ap (λ (o : Opened). o.na) s ∙ ap stored (sym i);
      count_b = ap (λ (o : Opened). o.nb) s ∙ ap stored (sym j);
      count = ap (λ (o : Opened). o.n) s ∙ ap stored (sym l);
    }

-- one operand that was read, with the header a; b the header of no variables, h the announced one
module _ (f : Family) (w m : ℕ) {a : Header} (z : (read_gate w m).number ≡ 0) (ea : a ≡ header_of w) where
  pub read_ruled : Ruled a
  read_ruled = rw ea (read-ready w m z).good.regular.rules

  module _ {b h : Header} (eb : b ≡ no_header) (eh : h ≡ announced f a b) where
    pub told_is : h ≡ announced_one f w
    told_is = rw (← ea, ← eb) eh

    pub told_ruled : Ruled h
    told_ruled = rw told_is (one-announced f w (read-ready w m z).word).rules

-- two operands that were read, with the headers x and y: h the announced one
module _ (w m u l : ℕ) {x y : Header} (z : (ask_word w (ask_word u (ask (full w m) 2 (ask (full u l) 2 no_refusal)))).number ≡ 0)
    (e : AreHeaders w u (x, y)) where
  both-good : (good_word w ≡ true) × (good_word u ≡ true)
  both-good = words-good w u (full w m) (full u l) z

  pub left-ruled : Ruled x
  left-ruled = rw e.left (good_word_lem w both-good.0).regular.rules

  pub right-ruled : Ruled y
  right-ruled = rw e.right (good_word_lem u both-good.1).regular.rules

  pub both-told : (f : Family) {h : Header} → h ≡ announced f x y → Ruled h
  both-told f {h} i =
      let told : h ≡ announced_pair f w u = simp (e.left, e.right) at i in
      rw told (pair-announced f w u both-good.0 both-good.1).rules
