-- The invariant of the loops over a segment: it holds before the first turn, and each turn keeps it. Assumes nothing.
use mathlib.Core.Path.{◌≡◌, refl, sym, subst, ◌∙◌}
use mathlib.Core.List.{List}
use mathlib.Core.Bool.{true}
use Prim.Native.Nat.{ℕ, ◌+◌, ◌≤◌, ◌<◌}
use native.Mathlib.Nat as nat
use native.Mathlib.Omega.{arith}
use lib.ListN.{length, set, length-set}
use lib.Dec.{T}
use lib.Ieee.{Float, binary64, lt, le, fits}
use lib.Ieee.Fits.{and_l, and_r, add-fits}
use Rattle.floats.specs.Double.{◌⊕◌, ◌⊗◌}
use Rattle.waveform.specs.Waveform.{radians}
use Rattle.waveform.proofs.Loops.{goes_on, goes_on-four}
use Rattle.low_notes.specs.declared.Segment.{Segment}
use Rattle.low_notes.specs.Inner.{line_of, fraction_of, is_in_segment, Straight, FillsSegment}

-- a loop that began with ys at the phase p and sample i has reached zs, the phase q and sample j
abbrev pub SegmentFilled : Segment → Float → Float → List Float → Float → ℕ → List Float → Float → ℕ → Type 0
SegmentFilled s step scale ys p i zs q j = (length zs ≡ length ys) × (i ≤ j) × T (fits binary64 q) × FillsSegment s step scale ys (record { phase = radians p; count = i }) zs (record { phase = radians q; count = j })

pub filled_none : (s : Segment) (step scale : Float) (ys : List Float) (p : Float) (i : ℕ) → T (fits binary64 p) → SegmentFilled s step scale ys p i ys p i
filled_none s step scale ys p i w = (refl, nat.le_refl i, w, λ value straight p₀ xs u. u)

module _ (s : Segment) (step scale : Float) (ys : List Float) (p : Float) (i : ℕ) where
  -- the phase q passes the code's test, and v is the value that the code makes of it
  abbrev Tested : Float → Type 0
  Tested q = is_in_segment s q ≡ true

  abbrev Made : Float → Float → Type 0
  Made v q = v ≡ line_of s.line (fraction_of s.base.0 q)

  made : (value : Float → Float) → Straight value s → (v q : Float) → T (fits binary64 q) → Tested q → Made v q → v ≡ value q
  made value straight v q w t e =
      let inside = subst T (sym t) tt in
      e ∙ sym (straight q (w, and_l (le s.from.0 q) (lt q s.to.0) inside, and_r (le s.from.0 q) (lt q s.to.0) inside))

  pub filled-one : (zs : List Float) (q v : Float) (j : ℕ) → SegmentFilled s step scale ys p i zs q j → j < length zs → Tested q → Made v q → SegmentFilled s step scale ys p i (set zs j (v ⊗ scale)) (q ⊕ step) (j + 1)
  filled-one zs q v j (size, from, w, on) h t e = (
    simp length-set size,
    omega (arith, from),
    add-fits binary64 q step,
    λ value straight p₀ xs u. goes_on value step scale p₀ xs zs q v j (on value straight p₀ xs u) h (made value straight v q w t e),
  )

  pub filled-four : (zs : List Float) (q v₀ v₁ v₂ v₃ : Float) (j : ℕ) → SegmentFilled s step scale ys p i zs q j → j + 4 ≤ length zs → Tested q → Tested (q ⊕ step) → Tested (q ⊕ step ⊕ step) → Tested (q ⊕ step ⊕ step ⊕ step) → Made v₀ q → Made v₁ (q ⊕ step)
      → Made v₂ (q ⊕ step ⊕ step) → Made v₃ (q ⊕ step ⊕ step ⊕ step)
      → SegmentFilled s step scale ys p i (set (set (set (set zs j (v₀ ⊗ scale)) (j + 1) (v₁ ⊗ scale)) (j + 2) (v₂ ⊗ scale)) (j + 3) (v₃ ⊗ scale)) (q ⊕ step ⊕ step ⊕ step ⊕ step) (j + 4)
  filled-four zs q v₀ v₁ v₂ v₃ j (size, from, w, on) h t₀ t₁ t₂ t₃ e₀ e₁ e₂ e₃ = (
    simp length-set size,
    omega (arith, from),
    add-fits binary64 (q ⊕ step ⊕ step ⊕ step) step,
    λ value straight p₀ xs u. goes_on-four value step scale p₀ xs zs q v₀ v₁ v₂ v₃ j (on value straight p₀ xs u) h (made value straight v₀ q w t₀ e₀) (made value straight v₁ (q ⊕ step) (add-fits binary64 q step) t₁ e₁)
        (made value straight v₂ (q ⊕ step ⊕ step) (add-fits binary64 (q ⊕ step) step) t₂ e₂) (made value straight v₃ (q ⊕ step ⊕ step ⊕ step) (add-fits binary64 (q ⊕ step ⊕ step) step) t₃ e₃),
  )
