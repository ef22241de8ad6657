-- Demand 2, for frames: what is joined opens to the same list, and the joined form is the one shortest (document 01, "Frame
-- and sub-frame"). `opening` is what `frame::open` answers by its contract, and `joined` is made of `shortest_header`,
-- which `joining::put_header` writes by its contract. Proved in proofs/Same.antt, proofs/Shortest.antt and proofs/Octets.antt.
use Rattle.std.specs.Prelude.{ℕ, ◌+◌, ◌≤◌, ◌≡◌, List, [], ◌∷◌, ◌++◌, map, Bool, false, cond, eqb, length, get_or, take, drop, replicate, None}
use Rattle.octets.specs.Octets.{Octets}
use Rattle.header.specs.declared.SubFrame.{SubFrame}
use Rattle.header.specs.Header.{ei, end_of}
use Rattle.frame.specs.Opening.{most_octets, most_sub_frames, opening}
use Rattle.joining.specs.Joining.{Member, is_none, joined, ei_for}

-- CIDs 4 to 255, types 0 to 15, a payload of at most 255 octets unless it is the last.
pub record Carriable (c : Member) (last : Bool) : Type 0 where
  pub free : 4 ≤ c.cid
  pub small : c.cid ≤ 255
  pub four_bits : c.ptype ≤ 15
  pub short : last ≡ false → length c.payload ≤ 255

abbrev pub Each : List Member → Type 0
Each [] = Unit
Each (c ∷ cs) = Carriable c (is_none cs) × Each cs

-- A list that fits a frame: 1 to 64 sub-frames, 1,600 octets in all.
pub record Fits (cs : List Member) : Type 0 where
  pub some : 1 ≤ length cs
  pub most : length cs ≤ most_sub_frames
  pub each : Each cs
  pub whole : length (joined cs) ≤ most_octets

-- What a sub-frame of the frame s holds.
abbrev pub content_of : List ℕ → SubFrame → Member
content_of s sub = record { cid = sub.cid; ptype = sub.ptype; payload = take sub.len (drop sub.start s) }

-- The list that a frame opens to.
abbrev pub list : List ℕ → List Member
list s = map (content_of s) (opening s).subs

-- A sound frame.
abbrev pub Sound : List ℕ → Type 0
Sound s = (opening s).refused ≡ None

-- What is joined opens to the same list.
abbrev pub OpensToTheSame : Type 0
OpensToTheSame = (cs : List Member) → Fits cs → Sound (joined cs) × (list (joined cs) ≡ cs)

-- How many of the sub-frames that begin at `at` have an octet 1a that they do not need: EI is 1, the CID is below 64 and the
-- type is 0.
abbrev pub needless : List ℕ → ℕ → List SubFrame → ℕ
needless s at [] = 0
needless s at (sub ∷ subs) = cond (eqb (ei_for sub.cid sub.ptype) 0) (ei (get_or s at 0)) 0 + needless s (end_of sub) subs

-- A sound frame's list fits a frame, and the frame is as long as the joined form of its list, plus one octet for each needless
-- octet 1a. With none it is the joined form.
pub record Longer (s : List ℕ) : Type 0 where
  pub fits : Fits (list s)
  pub longer : length s ≡ length (joined (list s)) + needless s 0 (opening s).subs
  pub same : needless s 0 (opening s).subs ≡ 0 → s ≡ joined (list s)

abbrev pub AsLongAsJoined : Type 0
AsLongAsJoined = (s : List ℕ) → Octets s → Sound s → Longer s

-- So the joined form is the shortest, and the only one of its length.
abbrev pub OneShortest : Type 0
OneShortest =
    (s : List ℕ) (cs : List Member)
    → Octets s
    → Sound s
    → list s ≡ cs
    → (length (joined cs) ≤ length s) × (length s ≡ length (joined cs) → s ≡ joined cs)

-- What is joined is octets, where the payloads are.
abbrev pub PayloadOctets : List Member → Type 0
PayloadOctets [] = Unit
PayloadOctets (c ∷ cs) = Octets c.payload × PayloadOctets cs

abbrev pub JoinedOctets : Type 0
JoinedOctets = (cs : List Member) → Fits cs → PayloadOctets cs → Octets (joined cs)

-- A list for which the hypotheses are met: 64 sub-frames, 1,600 octets in all (proofs/Octets.antt, `fullest-fits`).
abbrev pub content : ℕ → ℕ → List ℕ → Member
content cid ptype payload = record { cid = cid; ptype = ptype; payload = payload }

abbrev pub fullest : List Member
fullest = replicate 63 (content 5 0 (replicate 23 0)) ++ content 200 4 (replicate 23 0) ∷ []
