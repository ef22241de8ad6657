-- The claims on the states of a sender, and that what it sends reads back.
use Prim.Native.Nat.{ℕ, ◌+◌, ◌-◌, ◌<◌, ◌≤◌}
use mathlib.Core.Path.{◌≡◌, refl, sym, ap, subst, ◌∙◌}
use mathlib.Core.List.{List, ◌∷◌, ◌++◌}
use mathlib.Core.Bool.{Bool, true}
use mathlib.Core.Logic.{⊎_elim}
use native.Mathlib.Nat.{zero-add}
use native.Mathlib.Omega.{arith}
use lib.ListN.{length, get_or, drop, replicate, length-append, length-drop, length-replicate, get_or-replicate, get_or-append}
use lib.Seq.{get_or-drop, get_or-append-add}
use Rattle.std.specs.declared.option.Option.TheVariants.{Some}
use Rattle.std.specs.declared.result.Result.TheVariants.{Ok, Err}
use Rattle.refusal.specs.declared.Refusal.TheVariants.{ValueOutOfRange}
use Rattle.octets.proofs.Order.{lt-or-le, either}
use Rattle.octets.specs.Made.{made}
use Rattle.signalling.specs.declared.layout.Signalling.{Signalling}
use Rattle.seizing.specs.declared.Entry.{Entry}
use Rattle.seizing.specs.declared.Sender.{Sender}
use Rattle.seizing.specs.declared.Decision.{Decision}
use Rattle.seizing.specs.declared.Decision.TheVariants.{Sends, Repeats, Rests}
use Rattle.signalling.specs.Layout.{allowed, all_allowed, first_octet, pairs, signalling_read, signalling_made}
use Rattle.seizing.specs.Sender.{Sent, sender_from, windows_after, started, decision_of, after_sent, after_unsent, payload_of, period, sent}
use Rattle.seizing.specs.Claims.{Proper, SenderStarts, SenderStays, SentReadsBack}
use Rattle.signalling.proofs.Samples.{allowed-looks, each-passes, all_pass}
use Rattle.signalling.proofs.LayoutBack.{Fitting, made-octets, signalling-reads-back}
use Rattle.seizing.proofs.SenderCases as cases

each-allowed : (samples : List ℕ) (n i : ℕ) → all_allowed n i samples ≡ true → (j : ℕ) → j < n → allowed (get_or samples (i + j) 0) ≡ true
each-allowed samples = each-passes (allowed-looks samples)

all_are : (samples : List ℕ) (n i : ℕ) → ((j : ℕ) → j < n → allowed (get_or samples (i + j) 0) ≡ true) → all_allowed n i samples ≡ true
all_are samples = all_pass (allowed-looks samples)

from-proper : (value : ℕ) → allowed value ≡ true → Proper (sender_from value)
from-proper value h =
    record {
      thirty = length-replicate 30 value;
      fair = all_are (replicate 30 value) 30 0 (λ j less. ap allowed (get_or-replicate 30 (0 + j) value 0 (omega arith)) ∙ h);
      within = omega arith;
      level = h;
    }

pub sender-starts : SenderStarts
sender-starts value s starts =
    either
    (λ yes. let is : started value ≡ Ok (sender_from value) = rw yes refl in let same : sender_from value ≡ s = cc in subst Proper same (from-proper value yes))
    (λ no. let is : started value ≡ Err ValueOutOfRange = rw no refl in absurd cc)
    (allowed value)
    refl

-- a proper state goes on by a period of ten allowed samples
module _ (s : Sender) (e : Entry) (proper : Proper s) (ten : length e.samples ≡ 10) (fair : all_allowed 10 0 e.samples ≡ true) where
  windows-fair : all_allowed 30 0 (windows_after s.windows e.samples) ≡ true
  windows-fair =
      all_are (windows_after s.windows e.samples) 30 0
      (λ j less. rw (zero-add j) (⊎_elim (λ (old : j < 20). older j old) (λ (new : 20 ≤ j). newer j new less) (lt-or-le j 20)))
    where
      front : List ℕ
      front = drop 10 s.windows

      many : length front ≡ 20
      many = length-drop 10 s.windows ∙ ap (λ (n : ℕ). n - 10) proper.thirty

      older : (j : ℕ) → j < 20 → allowed (get_or (front ++ e.samples) j 0) ≡ true
      older j old =
          let inside : j < length front = omega (arith, many) in
          let kept = each-allowed s.windows 30 0 proper.fair (10 + j) (omega arith) in
          ap allowed (get_or-append front e.samples 0 j inside ∙ get_or-drop 10 s.windows j 0 ∙ ap (λ (k : ℕ). get_or s.windows k 0) (sym (zero-add (10 + j)))) ∙ kept

      newer : (j : ℕ) → 20 ≤ j → j < 30 → allowed (get_or (front ++ e.samples) j 0) ≡ true
      newer j new less =
          let place : length front + (j - 20) ≡ j = omega (arith, many) in
          let fresh = each-allowed e.samples 10 0 fair (j - 20) (omega arith) in
          ap allowed (ap (λ (k : ℕ). get_or (front ++ e.samples) k 0) (sym place) ∙ get_or-append-add front e.samples (j - 20) 0 ∙ ap (λ (k : ℕ). get_or e.samples k 0) (sym (zero-add (j - 20)))) ∙ fresh

  level : allowed (get_or e.samples 9 0) ≡ true
  level = each-allowed e.samples 10 0 fair 9 (omega arith)

  sent-proper : Proper (after_sent s e)
  sent-proper =
      record {
        thirty = length-append (drop 10 s.windows) e.samples ∙ rw (length-drop 10 s.windows, proper.thirty, ten);
        fair = windows-fair;
        within = omega arith;
        level = level;
      }

  unsent-proper : Proper (after_unsent s e)
  unsent-proper = record { thirty = proper.thirty; fair = proper.fair; within = proper.within; level = level }

  period-proper : (d : Decision) → Proper (period s e d).sender
  unfolding period
  period-proper Sends = sent-proper
  period-proper Repeats = unsent-proper
  period-proper Rests = unsent-proper

pub sender-stays : SenderStays
sender-stays s e proper ten =
    either (λ fair. subst (λ (r : Sent). Proper r.sender) (sym (cases.taken s e fair)) (period-proper s e proper ten fair (decision_of s e)))
    (λ wrong. subst (λ (r : Sent). Proper r.sender) (sym (cases.wrong s e wrong)) proper)
    (all_allowed 10 0 e.samples)
    refl

-- the payload of a proper state is made and reads back
abbrev pub Back : Signalling → Type 0
Back signalling =
    (octets : List ℕ)
    × (signalling_made signalling ≡ made octets)
    × (signalling_read octets ≡ Ok signalling)

pub payload-back : (s : Sender) (alarm : Bool) → Proper s → Back (payload_of s alarm)
payload-back s alarm proper =
    let payload : Signalling = payload_of s alarm in
    let fits : Fitting payload = record { within = proper.within; fair = proper.fair } in
    let octets : List ℕ = first_octet payload ∷ pairs 15 0 s.windows in
    let is_made : signalling_made payload ≡ made octets = made-octets payload fits in
    (octets, is_made, signalling-reads-back payload octets proper.thirty is_made)

out-back : (s : Sender) (e : Entry) (d : Decision) (out : Signalling) → Proper (period s e d).sender → (period s e d).answer ≡ Ok (Some out) → Back out
unfolding period
out-back s e Sends out proper goes = let same : payload_of (after_sent s e) e.alarm ≡ out = cc in subst Back same (payload-back (after_sent s e) e.alarm proper)
out-back s e Repeats out proper goes = let same : payload_of (after_unsent s e) e.alarm ≡ out = cc in subst Back same (payload-back (after_unsent s e) e.alarm proper)
out-back s e Rests out proper goes = absurd cc

pub sent-reads-back : SentReadsBack
sent-reads-back s e out proper ten goes =
    either
    (λ fair.
    out-back s e (decision_of s e) out (period-proper s e proper ten fair (decision_of s e))
    (sym (ap (λ (r : Sent). r.answer) (cases.taken s e fair)) ∙ goes))
    (λ wrong. let no : (sent s e).answer ≡ Err ValueOutOfRange = ap (λ (r : Sent). r.answer) (cases.wrong s e wrong) in absurd cc)
    (all_allowed 10 0 e.samples)
    refl
