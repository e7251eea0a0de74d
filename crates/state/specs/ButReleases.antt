-- Scores apart from how a key's release is written. 02, R-4: "Most keyboards send a key's release as a note-on with
-- velocity 0, and MIDI 1.0 says that it is one"; "From now on such a record acts as a note-off of that note". A
-- note-off may have any velocity, and that velocity is never heard.
-- The laws of proofs/ButReleases.antt use these definitions. Definitions only.
use Rattle.std.specs.Prelude.{◌≡◌, ◌⊎◌, List, ℕ, ◌<◌}
use Rattle.score.specs.declared.Record.{Record}
use Rattle.score.specs.declared.Kind.TheVariants.{On, Off}
use Rattle.score.specs.Record.{count_of, record_at}

-- a note-on with velocity 0
abbrev pub IsNought : Record → Type 0
IsNought r = (r.kind ≡ On) × (r.velocity ≡ 0)

-- the release of a key: a note-off, or a note-on with velocity 0. The voice may still fall back, or not change
abbrev pub IsRelease : Record → Type 0
IsRelease r = (r.kind ≡ Off) ⊎ IsNought r

-- two releases of one key at one position, each written in either way
pub record SameRelease (r p : Record) : Type 0 where
  pub releases : IsRelease r × IsRelease p
  pub note : r.note ≡ p.note
  pub position : r.position ≡ p.position

-- the same records in the same order, but for kind and velocity of releases
pub record SameButReleases (s t : List ℕ) : Type 0 where
  pub count : count_of s ≡ count_of t
  pub each : (i : ℕ) → i < count_of s → (record_at s i ≡ record_at t i) ⊎ SameRelease (record_at s i) (record_at t i)
