-- The loop of `put_subs`: after i turns the first i sub-frames stand, and the next header is at the place.
use Prim.Native.Nat.{ℕ, ◌+◌, ◌*◌, ◌<◌, ◌≤◌}
use mathlib.Core.Path.{◌≡◌, sym, ap, ◌∙◌}
use mathlib.Core.List.{List, ◌++◌}
use native.Mathlib.Omega.{arith}
use lib.ListN.{length, take, drop}
use lib.Seq.{take_all}
use Rattle.header.specs.declared.SubFrame.{SubFrame}
use Rattle.header.specs.Header.{sub_at, end_of}
use Rattle.frame.specs.Opening.{opening}
use Rattle.frame.proofs.Chain as chain
use Rattle.listing.specs.Listing.{sub_listing, subs_listing}
use Rattle.printing.specs.Room.{Appended}
use Rattle.printing.proofs.Appending as appending
use Rattle.listing.proofs.Listings as listings
use Rattle.octets.proofs.Writes as writes

pub record Going (table s out₀ out : List ℕ) (at next place i : ℕ) : Type 0 where
  pub within : i ≤ length (opening s).subs
  pub rest : chain.Chain s place (drop i (opening s).subs)
  pub stands : Appended out₀ at (subs_listing table s (take i (opening s).subs)) (104 * i) out next

pub begins : (table s out : List ℕ) (at : ℕ) → Going table s out out at at 0 0
unfolding subs_listing
begins table s out at =
    record {
      within = omega arith;
      rest = (chain.opening-fine s).chain;
      stands = record { ends = omega arith; holds = sym (writes.written_none out at); size = omega arith };
    }

pub few : (s : List ℕ) → length (opening s).subs ≤ 64
few s = (chain.opening-fine s).few

module _ {table s out₀ out : List ℕ} {at next place i : ℕ} (going : Going table s out₀ out at next place i) (room : at + 6656 ≤ length out₀) where
  pub same_length : length out ≡ length out₀
  same_length = appending.same_length going.stands (omega (arith, few s, going.within))

  -- the sub-frame whose header is at the place
  module _ (sub : SubFrame) (is : sub ≡ sub_at s place) (more : i < length (opening s).subs) where
    pub ends : end_of sub ≤ length s
    ends = chain.ends s place i (opening s).subs going.rest sub is more

    pub room-left : next + 104 ≤ length out
    room-left = omega (arith, few s, going.stands.ends, going.stands.size, same_length)

    pub turn :
        {after : List ℕ} {then : ℕ}
        → Appended out next (sub_listing table s sub) 104 after then
        → Going table s out₀ after at then (end_of sub) (i + 1)
    turn {after} {then} one =
        let text =
        ap (λ (x : SubFrame). subs_listing table s (take i (opening s).subs) ++ sub_listing table s x) (chain.this s place i (opening s).subs going.rest sub is more)
        ∙ listings.subs-more table s (opening s).subs i sub more
        in
        let both = appending.then going.stands one (omega (arith, few s)) in
        record {
          within = omega arith;
          rest = chain.onward s place i (opening s).subs going.rest sub is more;
          stands = appending.reads (appending.within both (104 * (i + 1)) (omega arith)) text;
        }

  pub whole : length (opening s).subs ≤ i → Appended out₀ at (subs_listing table s (opening s).subs) 6656 out next
  whole all =
      let text = ap (subs_listing table s) (take_all i (opening s).subs all) in
      appending.reads (appending.within going.stands 6656 (omega (arith, few s, going.within))) text
