-- What is sent can be written and reads back: the claims of specs/SenderClaims.antt.
use Prim.Native.Nat.{ℕ}
use mathlib.Core.Path.{◌≡◌, refl, sym, ap, subst, ◌∙◌}
use mathlib.Core.List.{List, [], ◌∷◌}
use mathlib.Core.Bool.{Bool, true, false, cond}
use Rattle.octets.proofs.Order.{either}
use Rattle.levels.specs.Level.{code_of}
use Rattle.digits.specs.declared.layout.Digits.{Digits}
use Rattle.dialling.specs.declared.Entry.{Entry}
use Rattle.dialling.specs.declared.Sender.{Sender}
use Rattle.std.specs.declared.option.Option.TheVariants.{Some, None}
use Rattle.dialling.specs.Sender.{Taken}
use Rattle.digits.specs.Layout.{window_wrong, level_low, digits_octets}
use Rattle.digits.specs.Claims.{normal_window, normal}
use Rattle.dialling.specs.Sender.{fresh_sender, window_in, stray_edge, due, payload_of, after_sent, after_unsent, period, refused, sending}
use Rattle.dialling.specs.SenderClaims.{sender_after, Plain, Proper, levelled, ReadsBack, FreshProper, StaysProper, SentReadsBack, AllReadsBack}
use Rattle.digits.proofs.LayoutBack.{Fitting, made-octets, digits-read-back}
use Rattle.dialling.proofs.SenderCases as cases
use Rattle.refusal.specs.declared.Refusal.TheVariants.{ValueOutOfRange, EdgeWithoutChange}
use Rattle.std.specs.declared.result.Result.TheVariants.{Ok, Err}
use Rattle.refusal.specs.declared.Refusal.{Refusal}

-- an entry that is no refusal
pub record Passed (s : Sender) (e : Entry) : Type 0 where
  pub right : window_wrong (window_in e) ≡ false
  pub fair : level_low (code_of 31 e.level) ≡ false
  pub in_place : stray_edge s (window_in e) ≡ false
  pub is : sending s e ≡ period s (window_in e) e.level

-- an entry is refused or is none
pub split : {A : Type 0} (s : Sender) (e : Entry) → ((refusal : Refusal) → sending s e ≡ refused s refusal → A) → (Passed s e → A) → A
split s e bad good =
    either (λ wrong. bad ValueOutOfRange (cases.wrong s e wrong))
    (λ right.
    either (λ low. bad ValueOutOfRange (cases.low s e right low))
    (λ fair.
    either (λ stray. bad EdgeWithoutChange (cases.stray s e right fair stray))
    (λ placed. good (record { right = right; fair = fair; in_place = placed; is = cases.in_place s e right fair placed }))
    (stray_edge s (window_in e))
    refl)
    (level_low (code_of 31 e.level))
    refl)
    (window_wrong (window_in e))
    refl

-- the period of an entry has code 0 when off
entry-normal : (on : Bool) (edge code : ℕ) → normal_window (record { on = on; edge = edge; code = cond on code 0 }) ≡ record { on = on; edge = edge; code = cond on code 0 }
entry-normal true edge code = refl
entry-normal false edge code = refl

pub entry-plain : (s : Sender) (e : Entry) → Passed s e → Plain (window_in e)
entry-plain s e p = record { right = p.right; normal_is = entry-normal e.on e.edge e.code }

pub fresh-proper : FreshProper
fresh-proper = record { recent = record { right = refl; normal_is = refl }; previous = record { right = refl; normal_is = refl } }

-- the sender after an answer that is known
moved : (t u : Taken) → t ≡ u → Proper u.sender → Proper t.sender
moved t u e p = subst (λ (x : Taken). Proper x.sender) (sym e) p

pub stays-proper : StaysProper
stays-proper s e proper =
    split s e (λ refusal is. moved (sending s e) (refused s refusal) is proper)
    (λ passed.
    let w = window_in e in
    either
    (λ sent.
    moved (sending s e) (record { answer = Ok (Some (payload_of s w e.level)); sender = after_sent s w })
    (passed.is ∙ cases.sent s w e.level sent)
    (record { recent = entry-plain s e passed; previous = proper.recent }))
    (λ unsent.
    moved (sending s e) (record { answer = Ok None; sender = after_unsent s w })
    (passed.is ∙ cases.unsent s w e.level unsent)
    (record { recent = proper.recent; previous = proper.previous }))
    (due s w)
    refl)

-- a payload of plain periods
reads-back : (d : Digits) → level_low (code_of 31 d.level) ≡ false → Plain d.current → Plain d.recent → Plain d.previous → ReadsBack d
reads-back d fair p0 p1 p2 =
    let f : Fitting d = record { fair = fair; w0 = p0.right; w1 = p1.right; w2 = p2.right } in
    let written = made-octets d f in
    let same : normal d ≡ levelled d = rw (p0.normal_is, p1.normal_is, p2.normal_is) in
    record {
      octets = digits_octets d;
      written = written;
      read = digits-read-back d (digits_octets d) written ∙ ap (λ (x : Digits). Ok x) same;
    }

pub sent-reads-back : SentReadsBack
sent-reads-back s e d proper told =
    split s e (λ refusal is. let no : (sending s e).answer ≡ Err refusal = ap (λ (t : Taken). t.answer) is in absurd cc)
    (λ passed.
    let w = window_in e in
    either
    (λ sent.
    let is : (sending s e).answer ≡ Ok (Some (payload_of s w e.level)) =
    ap (λ (t : Taken). t.answer) (passed.is ∙ cases.sent s w e.level sent)
    in
    let same : payload_of s w e.level ≡ d = cc in
    subst ReadsBack same
    (reads-back (payload_of s w e.level) passed.fair (entry-plain s e passed) proper.recent proper.previous))
    (λ unsent.
    let no : (sending s e).answer ≡ Ok None = ap (λ (t : Taken). t.answer) (passed.is ∙ cases.unsent s w e.level unsent) in
    absurd cc)
    (due s w)
    refl)

pub after-proper : (s : Sender) (es : List Entry) → Proper s → Proper (sender_after s es)
after-proper s [] p = p
after-proper s (e ∷ es) p = after-proper (sending s e).sender es (stays-proper s e p)

pub all-reads-back : AllReadsBack
all-reads-back es e d told = sent-reads-back (sender_after fresh_sender es) e d (after-proper fresh_sender es fresh-proper) told
