-- Fractions of a cycle and their values in a lent list: one more, all of them, and the corrections without a branch.
-- Assumes nothing.
use mathlib.Core.Path.{◌≡◌, refl, sym, ap, subst, ◌∙◌}
use mathlib.Core.Bool.{Bool, true, false, cond, ◌&&◌, ◌||◌}
use mathlib.Core.List.{List}
use mathlib.Core.Logic.{◌≢◌}
use Prim.Native.Nat.{ℕ, ◌+◌, ◌<◌, ◌≤◌}
use native.Mathlib.Numerals.{add-one}
use native.Mathlib.Omega.{arith}
use lib.Dec.{T}
use lib.ListN.{length, take, get_or, set, length-set}
use borrow.Author.Count.{below_more}
use lib.Seq.{take-suc-set, take_all, get_or-set_same, get_or-set_other, ext_get_or}
use lib.Ieee.{Float, nan, binary64, of_bits, add, sub, lt, le}
use lib.Ieee.Bits.{is_true}
use lib.Ieee.Fits.{and_i, and_l, and_r}
use lib.Ieee.Scale.{finite}
use Rattle.runs.specs.Runs.{run, listed}
use Rattle.runs.proofs.Listed.{listed_more, listed-length, listed_at, listed_same}
use Rattle.floats.specs.Range.{within}
use Rattle.floats.specs.Double.{◌⊕◌, ◌⊖◌, ◌⊗◌, ◌⊘◌, zero64, half, one, two}
use Rattle.floats.proofs.Order.{fle_refl, lt-le-lt, le-lt-lt, between-finite}
use Rattle.floats.proofs.Near.{add-order, sub_order}
use Rattle.floats.proofs.Low.{below_one_lem, from_one_lem}
use Rattle.floats.specs.Floor.{floor_of}
use Rattle.polyblep.specs.Polyblep.{side_of, knee_after, knee_before}
use Rattle.polyblep.specs.Polyblep as polyblep
use Rattle.polyblep.specs.declared.Side.TheVariants.{After, Before, Away}
use Rattle.waveform.specs.declared.Radians.{Radians}
use Rattle.waveform.specs.declared.Waveform.{Waveform}
use Rattle.waveform.specs.Waveform.{value_of, remainder_of, normal_of, inv_tau, radians}
use Rattle.waveform.specs.Filled.{phase_from, samples_by, FilledBy, Filled}
use Rattle.high_notes.specs.Remainders.{made_of, remainders_of}
use Rattle.high_notes.specs.Inner.{least, most, EachMade, is_near, knee_of}
use Rattle.waveform.proofs.Steps.{phase_more}

-- ---- a list made anew
module _ (value : Float → Float) (xs : List Float) where
  pub made-length : (k : ℕ) → length (made_of value xs k) ≡ k
  unfolding made_of
  made-length = listed-length _

  pub made_at : (k i : ℕ) → i < k → get_or (made_of value xs k) i nan ≡ value (get_or xs i nan)
  unfolding made_of
  made_at k i = listed_at _ k i nan

-- of a list that held xs the first i numbers are made of those that stood there, and the others are as they were
pub record MadeUpTo (made : Float → Float → Type 0) (xs ys : List Float) (i : ℕ) : Type 0 where
  pub long : length ys ≡ length xs
  pub first : (k : ℕ) → k < i → made (get_or xs k nan) (get_or ys k nan)
  pub others : (k : ℕ) → i ≤ k → get_or ys k nan ≡ get_or xs k nan

module _ (made : Float → Float → Type 0) (xs : List Float) where
  pub made-none : MadeUpTo made xs xs 0
  made-none = record { long = refl; first = λ k h. absurd (omega arith); others = λ k h. refl }

  pub made-more : (ys : List Float) (v : Float) (i : ℕ) → i < length ys → made (get_or ys i nan) v → MadeUpTo made xs ys i → MadeUpTo made xs (set ys i v) (i + 1)
  made-more ys v i h m b =
      record {
        long = simp length-set b.long;
        first = below_more (λ k. made (get_or xs k nan) (get_or (set ys i v) k nan)) i (λ k l. let n : k ≢ i = omega arith in rw get_or-set_other (b.first k l))
            (rw (get_or-set_same ys i v nan h, ← b.others i (omega arith)) m);
        others = λ j g. get_or-set_other ys i j _ nan (λ q. omega arith) ∙ b.others j (omega arith);
      }

  pub made-all : (ys : List Float) (i : ℕ) → length ys ≤ i → MadeUpTo made xs ys i → EachMade made xs ys
  made-all ys i h b = record { long = b.long; each = λ k l. b.first k (omega (arith, b.long)) }

-- where what is made is a value of what was there
pub made-values : (made : Float → Float → Type 0) (value : Float → Float) (xs ys : List Float) → EachMade made xs ys → ((i : ℕ) → i < length xs → (y : Float) → made (get_or xs i nan) y → y ≡ value (get_or xs i nan)) → ys ≡ made_of value xs (length xs)
made-values made value xs ys m e = ext_get_or nan ys (made_of value xs (length xs)) (m.long ∙ sym (made-length value xs (length xs))) (λ i h. let l : i < length xs = omega (arith, m.long) in e i l _ (m.each i l) ∙ sym (made_at value xs (length xs) i l))

-- made of what was made
pub made-twice : (f g h : Float → Float) (xs ys zs : List Float) → ys ≡ made_of f xs (length xs) → zs ≡ made_of g ys (length ys) → ((i : ℕ) → i < length xs → g (f (get_or xs i nan)) ≡ h (get_or xs i nan)) → zs ≡ made_of h xs (length xs)
unfolding made_of
made-twice f g h xs ys zs p q e =
    let long : length ys ≡ length xs = ap length p ∙ made-length f xs (length xs) in
    q ∙ rw long (listed_same _ _ (length xs) (λ i l. ap g (ap (λ (l : List Float). get_or l i nan) p ∙ made_at f xs (length xs) i l) ∙ e i l))

-- ---- the phases of a block, and what is made of them
module _ (step p : Float) where
  pub record Phased (xs ys : List Float) (q : Float) (i : ℕ) : Type 0 where
    pub size : length ys ≡ length xs
    pub within : i ≤ length ys
    pub phase : q ≡ phase_from step p i
    pub phases : take i ys ≡ listed (phase_from step p) i

  pub phased_none : (xs : List Float) → Phased xs xs p 0
  unfolding run listed phase_from
  phased_none xs = record { size = refl; within = omega arith; phase = refl; phases = refl }

  pub phased_more : (xs ys : List Float) (q : Float) (i : ℕ) → i < length ys → Phased xs ys q i → Phased xs (set ys i q) (q ⊕ step) (i + 1)
  phased_more xs ys q i h u =
      record {
        size = simp length-set u.size;
        within = simp length-set (omega arith);
        phase = ap (λ (x : Float). x ⊕ step) u.phase ∙ sym (phase_more step p i);
        phases = rw (listed_more (phase_from step p) i, add-one i, take-suc-set, u.phases, u.phase) refl;
      }

  pub phased_all : (xs ys : List Float) (q : Float) (i : ℕ) → length ys ≤ i → Phased xs ys q i → (ys ≡ listed (phase_from step p) (length xs)) × (radians q ≡ radians (phase_from step p (length xs)))
  phased_all xs ys q i h u =
      let e : i ≡ length ys = omega (arith, u.within) in
      (rw (← u.size, ← e) (sym (take_all i ys h) ∙ u.phases), rw (← u.size, ← e) (ap radians u.phase))

  -- their remainders
  pub remainders_are : (n : ℕ) (ys zs : List Float) → ys ≡ listed (phase_from step p) n → zs ≡ made_of remainder_of ys (length ys) → zs ≡ remainders_of step p n
  unfolding made_of
  remainders_are n ys zs e h = h ∙ rw (e, listed-length (phase_from step p) n) (listed_same _ _ n (λ i l. ap remainder_of (listed_at (phase_from step p) n i nan l)))

  -- values of the remainders are the samples of a block
  pub made_block : (value : Float → Float) (scale : Float) (xs zs vs : List Float) (r : Radians) → zs ≡ remainders_of step p (length xs) → r ≡ radians (phase_from step p (length xs))
      → vs ≡ made_of (λ (x : Float). value (x ⊗ inv_tau) ⊗ scale) zs (length zs) → FilledBy (λ (q : Float). value (normal_of q)) p step scale xs vs r
  unfolding made_of samples_by
  made_block value scale xs zs vs r e end m =
      let n = length xs in
      let long : length zs ≡ n = ap length e ∙ listed-length _ n in
      record {
        samples = m ∙ rw long (listed_same _ _ n (λ i l. ap (λ (x : Float). value (x ⊗ inv_tau) ⊗ scale) (ap (λ (l : List Float). get_or l i nan) e ∙ listed_at _ n i nan l)));
        phase = end;
      }

  -- of a waveform
  pub combined : (w : Waveform) (dt scale : Float) (xs ys zs vs : List Float) (r : Radians) → dt ≡ step ⊗ inv_tau → (ys ≡ listed (phase_from step p) (length xs)) × (r ≡ radians (phase_from step p (length xs))) → zs ≡ made_of remainder_of ys (length ys)
      → vs ≡ made_of (λ (x : Float). value_of w (x ⊗ inv_tau) dt ⊗ scale) zs (length zs) → Filled w p step scale xs vs r
  combined w dt scale xs ys zs vs r d (phases, end) e m =
      made_block (λ (u : Float). value_of w u (step ⊗ inv_tau)) scale xs zs vs r (remainders_are (length xs) ys zs phases e) end (subst (λ (t : Float). vs ≡ made_of (λ (x : Float). value_of w (x ⊗ inv_tau) t ⊗ scale) zs (length zs)) d m)

-- ---- both sides of an edge worked out, and one taken
abbrev branchless_x : Float → Float → Float
branchless_x t dt = cond (lt t dt) t (t ⊖ one) ⊘ dt

pub branchless_is : (after before : Float → Float) (t dt : Float) → cond (lt t dt) (after (branchless_x t dt)) (cond (lt (one ⊖ dt) t) (before (branchless_x t dt)) zero64) ≡ polyblep.value_at after before (side_of t dt)
branchless_is after before t dt = go (lt t dt) (lt (one ⊖ dt) t)
  where
    go : (a b : Bool) → cond a (after (cond a t (t ⊖ one) ⊘ dt)) (cond b (before (cond a t (t ⊖ one) ⊘ dt)) zero64) ≡ polyblep.value_at after before (cond a (After (t ⊘ dt)) (cond b (Before ((t ⊖ one) ⊘ dt)) Away))
    go true b = refl
    go false true = refl
    go false false = refl

-- the bracket of a corner's correction, of whatever is made
pub knee-is : (made : Float → Float) (t dt : Float) → cond (is_near t dt) (made (knee_of t dt)) zero64 ≡ polyblep.value_at (λ (x : Float). made (knee_after x)) (λ (x : Float). made (knee_before x)) (side_of t dt)
knee-is made t dt = go (lt t dt) (lt (one ⊖ dt) t)
  where
    go : (a b : Bool) → cond (a || b) (made (cond a (knee_after (cond a t (t ⊖ one) ⊘ dt)) (knee_before (cond a t (t ⊖ one) ⊘ dt)))) zero64 ≡ polyblep.value_at (λ (x : Float). made (knee_after x)) (λ (x : Float). made (knee_before x)) (cond a (After (t ⊘ dt)) (cond b (Before ((t ⊖ one) ⊘ dt)) Away))
    go true b = refl
    go false true = refl
    go false false = refl

pub fract-is : (x : Float) → (lt zero64 x && lt x two) ≡ true → cond (lt x one) zero64 one ≡ floor_of binary64 x
fract-is x t = go (lt x one) refl
  where
    go : (b : Bool) → lt x one ≡ b → cond b zero64 one ≡ floor_of binary64 x
    go true e = below_one_lem x t e
    go false e = from_one_lem x t e

-- ---- the second edge's phase lies above 0 and below 2
abbrev Low : Float → Type 0
Low x = (lt zero64 x && lt x two) ≡ true

between : (a x b : Float) → T (finite a) → T (finite b) → T (lt zero64 a) → T (lt b two) → T (le a x) → T (le x b) → Low x
between a x b f g l h p q =
    let k : T (finite x) = between-finite a x b f g p q in
    is_true _ (and_i (lt zero64 x) (lt x two) (lt-le-lt zero64 a x (unfold of_bits in tt) k l p) (le-lt-lt x b two k (unfold of_bits in tt) q h))

module _ (u : Float) (h : T (within zero64 one u)) where
  from : T (le zero64 u)
  from = and_l (le zero64 u) (le u one) h

  to : T (le u one)
  to = and_r (le zero64 u) (le u one) h

  u_finite : T (finite u)
  u_finite = between-finite zero64 u one (unfold of_bits in tt) (unfold of_bits in tt) from to

  half-finite : T (finite half)
  half-finite = unfold of_bits in tt

  pub half-low : Low (u ⊕ half)
  half-low =
      between (zero64 ⊕ half) (u ⊕ half) (one ⊕ half) (unfold of_bits add in tt) (unfold of_bits add in tt) (unfold of_bits add lt in tt) (unfold of_bits add lt in tt)
      (add-order binary64 zero64 u half half (unfold of_bits in tt) u_finite half-finite half-finite from (fle_refl half half-finite))
      (add-order binary64 u one half half u_finite (unfold of_bits in tt) half-finite half-finite to (fle_refl half half-finite))

  pub duty_low : (duty : Float) → T (within least most duty) → Low (u ⊖ duty ⊕ one)
  duty_low duty d =
      let a : T (le least duty) = and_l (le least duty) (le duty most) d in
      let b : T (le duty most) = and_r (le least duty) (le duty most) d in
      let f : T (finite duty) = between-finite least duty most (unfold of_bits in tt) (unfold of_bits in tt) a b in
      let one-finite : T (finite one) = unfold of_bits in tt in
      let down : T (le (zero64 ⊖ most) (u ⊖ duty)) = sub_order binary64 zero64 u most duty (unfold of_bits in tt) u_finite (unfold of_bits in tt) f from b in
      let up : T (le (u ⊖ duty) (one ⊖ least)) = sub_order binary64 u one duty least u_finite one-finite f (unfold of_bits in tt) to a in
      let g : T (finite (u ⊖ duty)) = between-finite (zero64 ⊖ most) (u ⊖ duty) (one ⊖ least) (unfold of_bits sub in tt) (unfold of_bits sub in tt) down up in
      between (zero64 ⊖ most ⊕ one) (u ⊖ duty ⊕ one) (one ⊖ least ⊕ one) (unfold of_bits sub add in tt) (unfold of_bits sub add in tt) (unfold of_bits sub add lt in tt) (unfold of_bits sub add lt in tt)
      (add-order binary64 (zero64 ⊖ most) (u ⊖ duty) one one (unfold of_bits sub in tt) g one-finite one-finite down (fle_refl one one-finite))
      (add-order binary64 (u ⊖ duty) (one ⊖ least) one one g (unfold of_bits sub in tt) one-finite one-finite up (fle_refl one one-finite))
