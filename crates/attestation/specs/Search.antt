-- What the code's `Search` shows: its path, and where it goes on.
use Rattle.std.specs.Prelude.{◌≡◌, ◌<◌, length, Option, None, Some}
use Rattle.octets.specs.Order.{Octets}
use Rattle.profile.specs.Profile.{label}
use Rattle.profile.specs.Named.{number_of_profile}
use Rattle.profile.specs.declared.Profile.{Profile}
use Rattle.attester.specs.Path.{Path}
use Rattle.attestation.specs.declared.parts.Search.{Search}
use Rattle.attestation.specs.Parts.{onward_part, path_in}

-- its path, by the label function H
abbrev pub path_by : (Octets → Octets) → Search → Path
path_by H s = path_in H s.x.now s.keys.now

-- its path with the labels of a profile
abbrev pub path_of : Profile → Search → Path
path_of p s = path_by (label (number_of_profile p)) s

-- the search for the same key among the keys on its side, or none where there is no key
abbrev pub Onward : Search → Option Search → Type 0
Onward s None = length (onward_part s.x.now s.keys.now) < 20
Onward s (Some on) = (on.x.now ≡ s.x.now) × (on.keys.now ≡ onward_part s.x.now s.keys.now)
