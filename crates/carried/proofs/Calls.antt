-- What comes of calls that meet their contracts, one after the other (specs/Tied.antt).
use Prim.Native.Nat.{ℕ, ◌+◌, ◌≤◌}
use mathlib.Core.Path.{◌≡◌, refl, sym, ap, ap₂, subst, ◌∙◌}
use mathlib.Core.List.{List, ◌∷◌, ◌++◌}
use mathlib.Core.Bool.{Bool, true, false, cond}
use native.Mathlib.Omega.{arith}
use borrow.Author.Tests.{ltb-false}
use lib.Dec.{ltb}
use lib.ListN.{length, take, drop, length-append}
use lib.Seq.{take_at, drop_at, length-take-le}
use Rattle.std.specs.declared.option.Option.{Option}
use Rattle.std.specs.declared.option.Option.TheVariants.{Some, None}
use Rattle.std.specs.declared.result.Result.{Result}
use Rattle.std.specs.declared.result.Result.TheVariants.{Ok, Err}
use Rattle.contracts.proofs.Coming.{comes_of}
use Rattle.refusal.specs.declared.Refusal.{Refusal}
use Rattle.refusal.specs.declared.Refusal.TheVariants.{RoomTooSmall, ValueOutOfRange}
use Rattle.octets.specs.Made.{Made, made, unmade, octets_of, put_made, left_made}
use Rattle.octets.specs.Room.{put, written, left_by}
use Rattle.octets.proofs.Order.{either}
use Rattle.record.specs.declared.syntax.Record.{Record}
use Rattle.digits.specs.declared.layout.Digits as digits-layout
use Rattle.digits.specs.Layout.{digits_made}
use Rattle.signalling.specs.declared.layout.Signalling as signalling-layout
use Rattle.signalling.specs.Layout.{allowed, signalling_made}
use Rattle.dialling.specs.declared.Entry as digit-entry
use Rattle.dialling.specs.declared.Sender as digit_sender
use Rattle.dialled.specs.declared.Receiver as digit_receiver
use Rattle.dialling.specs.Sender.{Taken, fresh_sender, sending}
use Rattle.dialled.specs.Receiver as dialled
use Rattle.seizing.specs.declared.Entry as signalling-entry
use Rattle.seizing.specs.declared.Sender as signalling-sender
use Rattle.seized.specs.declared.Receiver as signalling_receiver
use Rattle.seizing.specs.Sender.{Sent, sender_from, started, sent}
use Rattle.seized.specs.Receiver as seized
use Rattle.trunk.specs.declared.Trunk.{Trunk}
use Rattle.trunk.specs.Trunk.{Told, fresh_trunk, taken}
use Rattle.replay.specs.Periods.{AllIn}
use Rattle.carried.specs.Emissions.{Emission}
use Rattle.carried.specs.Digits as digits
use Rattle.carried.specs.Signalling as signalling
use Rattle.carried.specs.Trunks.{Coming, came, other, told_of, tellings}
use Rattle.carried.specs.Tied.{Puts, DigitsPut, DigitCallsSent, no_more_digits, digits_on, DigitsReceived, no_more_heard, receives_on, hears_on, SignallingPut, SignallingSent, no_more_samples, samples_on, SignallingReceived, no_more_come, comes_on, type_of, octets_in, TrunkTold, no_more_told, tells_on, CallsAre, DigitCallsCarried, SignallingCallsCarried, FreshTrunk, TrunkDigitCallsCarried, TrunkSignallingCallsCarried}
use Rattle.carried.proofs.Digits.{digits-carried}
use Rattle.carried.proofs.Signalling.{signalling-carried}
use Rattle.carried.proofs.Trunks.{trunk-digits-carried, trunk-signalling-carried}
use Rattle.dialling.proofs.Sender.fresh.Kinds as digit-sender-kinds
use Rattle.dialling.proofs.Sender.fresh.Reads as digit-sender-reads
use Rattle.dialling.proofs.Sender.send.Kinds as digit-send-kinds
use Rattle.dialling.proofs.Sender.send.Reads as digit-send-reads
use Rattle.dialled.proofs.Receiver.fresh.Kinds as digit-receiver-kinds
use Rattle.dialled.proofs.Receiver.fresh.Reads as digit-receiver-reads
use Rattle.dialled.proofs.Receiver.receive.Kinds as digit-receive-kinds
use Rattle.dialled.proofs.Receiver.receive.Reads as digit-receive-reads
use Rattle.dialled.proofs.Receiver.hear_voice.Kinds as hear-voice-kinds
use Rattle.dialled.proofs.Receiver.hear_voice.Reads as hear-voice-reads
use Rattle.digits.proofs.layout.put_digits.Kinds as put-digits-kinds
use Rattle.digits.proofs.layout.put_digits.Reads as put-digits-reads
use Rattle.seizing.proofs.Sender.start.Kinds as start-kinds
use Rattle.seizing.proofs.Sender.start.Reads as start-reads
use Rattle.seizing.proofs.Sender.send.Kinds as signalling-send-kinds
use Rattle.seizing.proofs.Sender.send.Reads as signalling-send-reads
use Rattle.seized.proofs.Receiver.fresh.Kinds as signalling-receiver-kinds
use Rattle.seized.proofs.Receiver.fresh.Reads as signalling-receiver-reads
use Rattle.seized.proofs.Receiver.receive.Kinds as signalling-receive-kinds
use Rattle.seized.proofs.Receiver.receive.Reads as signalling-receive-reads
use Rattle.signalling.proofs.layout.put_signalling.Kinds as put-signalling-kinds
use Rattle.signalling.proofs.layout.put_signalling.Reads as put-signalling-reads
use Rattle.trunk.proofs.Trunk.fresh.Kinds as trunk-kinds
use Rattle.trunk.proofs.Trunk.fresh.Reads as trunk-reads
use Rattle.trunk.proofs.Trunk.take.Kinds as take-kinds
use Rattle.trunk.proofs.Trunk.take.Reads as take-reads

-- octets that were put stand where they were put
stand : (room octets left : List ℕ) (at next : ℕ) → at + length octets ≤ length room → next ≡ at + length octets → left ≡ written room at octets → drop at (take next left) ≡ octets
stand room octets left at next fits end is =
    let front : length (take at room) ≡ at = length-take-le at room (omega arith) in
    let many : length (take at room ++ octets) ≡ next = length-append (take at room) octets ∙ ap (λ (k : ℕ). k + length octets) front ∙ sym end in
    ap (λ (l : List ℕ). drop at (take next l)) is
    ∙ ap (drop at) (take_at (take at room ++ octets) (drop (at + length octets) room) next many)
    ∙ drop_at (take at room) octets at front

put-stands : (m : Made) (room : List ℕ) (at next : ℕ) (left : List ℕ) → Ok next ≡ put_made room at m → left ≡ left_made room at m → drop at (take next left) ≡ octets_of m
unfolding put
put-stands (unmade refusal) room at next left answers leaves = absurd cc
put-stands (made octets) room at next left answers leaves =
    let choose : Bool → Result ℕ Refusal = λ (b : Bool). cond b (Err RoomTooSmall) (Ok (at + length octets)) in
    either
    (λ (e : ltb (length room) (at + length octets) ≡ true). let no : Ok next ≡ Err RoomTooSmall = answers ∙ ap choose e in absurd cc)
    (λ (e : ltb (length room) (at + length octets) ≡ false).
    let is : Ok next ≡ Ok (at + length octets) = answers ∙ ap choose e in
    let end : next ≡ at + length octets = cc in
    stand room octets left at next (ltb-false (length room) (at + length octets) e) end
    (leaves ∙ ap (λ (b : Bool). left_by (choose b) room at octets) e))
    (ltb (length room) (at + length octets))
    refl

-- what a call that puts a content answers and leaves, together
abbrev put_back : List ℕ → ℕ → Made → Result ℕ Refusal × List ℕ
put_back room at m = (put_made room at m, left_made room at m)

puts-are : (Call : List ℕ → ℕ → Result ℕ Refusal → List ℕ → Type 0) (m : Made)
    → ((room : List ℕ) (at : ℕ) (answer : Result ℕ Refusal) (left : List ℕ) → Call room at answer left → (answer, left) ≡ put_back room at m)
    → (octets : List ℕ)
    → Puts Call octets
    → octets ≡ octets_of m
puts-are Call m says octets puts =
    let back = says puts.room puts.at (Ok puts.next) puts.left puts.call in
    puts.stands
    ∙ put-stands m puts.room puts.at puts.next puts.left (ap (λ (b : Result ℕ Refusal × List ℕ). b.0) back) (ap (λ (b : Result ℕ Refusal × List ℕ). b.1) back)

both : {y y2 : Result ℕ Refusal} {l l2 : List ℕ} → y ≡ y2 → l ≡ l2 → ◌≡◌ {A = Result ℕ Refusal × List ℕ} (y, l) (y2, l2)
both p q = ap₂ (λ (y : Result ℕ Refusal) (l : List ℕ). (y, l)) p q

-- digits
digits_put : (d : digits-layout.Digits) (room : List ℕ) (at : ℕ) (answer : Result ℕ Refusal) (left : List ℕ) → DigitsPut d room at answer left → (answer, left) ≡ put_back room at (digits_made d)
digits_put d room at answer left m =
    comes_of 1 put-digits-kinds.ps put-digits-kinds.r put-digits-reads.Post _ _ (λ (i : List ℕ × ℕ × digits-layout.Digits). put_back i.0 i.1 (digits_made i.2)) (λ κs a x s p. both p.0 p.1) (room, at, d) (answer, left) m

digits-emitted : (n : ℕ) (answer : Result (Option digits-layout.Digits) Refusal) (octets : List ℕ) → ((d : digits-layout.Digits) → answer ≡ Ok (Some d) → Puts (DigitsPut d) octets) → digits.emitted_as n answer octets ≡ digits.emitted n answer
digits-emitted n (Ok (Some d)) octets puts = ap (digits.emitted_as n (Ok (Some d))) (puts-are (DigitsPut d) (digits_made d) (digits_put d) octets (puts d refl))
digits-emitted n (Ok None) octets puts = refl
digits-emitted n (Err refusal) octets puts = refl

digits_sent : (s : digit_sender.Sender) (n : ℕ) (es : List digit-entry.Entry) (ps : List Emission) → DigitCallsSent s n es ps → ps ≡ digits.emissions s n es
digits_sent s0 n0 es0 ps0 (no_more_digits s n) = refl
digits_sent s0 n0 es0 ps0 (digits_on s n e es x octets ps call puts more) =
    let is : x ≡ sending s e =
    comes_of 1 digit-send-kinds.ps digit-send-kinds.r digit-send-reads.Post _ _ (λ (i : digit_sender.Sender × digit-entry.Entry). sending i.0 i.1) (λ κs a x s p. ap₂ (λ y t. record { answer = y; sender = t }) p.0 p.1) (s, e) x call
    in
    ap₂ (λ (l r : List Emission). l ++ r) (digits-emitted n x.answer octets puts) (digits_sent x.sender (digits.number_after n x.answer) es ps more)
    ∙ ap (λ (t : Taken). digits.emitted n t.answer ++ digits.emissions t.sender (digits.number_after n t.answer) es) is

digits_received : (r : digit_receiver.Receiver) (hs : List digits.Heard) (xs : List dialled.Received) → DigitsReceived r hs xs → xs ≡ digits.answers r hs
digits_received r0 hs0 xs0 (no_more_heard r) = refl
digits_received r0 hs0 xs0 (receives_on r p hs x xs call more) =
    let is : x ≡ dialled.received r p.octets =
    comes_of 2 digit-receive-kinds.ps digit-receive-kinds.r digit-receive-reads.Post _ _ (λ (i : digit_receiver.Receiver × List ℕ). dialled.received i.0 i.1) (λ κs a x s p. ap₂ (λ y t. record { answer = y; receiver = t }) p.0 p.1) (r, p.octets) x call
    in
    ap (λ (l : List dialled.Received). x ∷ l) (digits_received x.receiver hs xs more)
    ∙ ap (λ (y : dialled.Received). y ∷ digits.answers y.receiver hs) is
digits_received r0 hs0 xs0 (hears_on r after hs xs call more) =
    let is : after ≡ dialled.voice_heard r =
    comes_of 1 hear-voice-kinds.ps hear-voice-kinds.r hear-voice-reads.Post _ _ (λ (i : digit_receiver.Receiver). dialled.voice_heard i) (λ κs a x s p. p) r after call
    in
    digits_received after hs xs more ∙ ap (λ (q : digit_receiver.Receiver). digits.answers q hs) is

-- signalling
signalling_put : (d : signalling-layout.Signalling) (room : List ℕ) (at : ℕ) (answer : Result ℕ Refusal) (left : List ℕ) → SignallingPut d room at answer left → (answer, left) ≡ put_back room at (signalling_made d)
signalling_put d room at answer left m =
    comes_of 1 put-signalling-kinds.ps put-signalling-kinds.r put-signalling-reads.Post _ _ (λ (i : List ℕ × ℕ × signalling-layout.Signalling). put_back i.0 i.1 (signalling_made i.2)) (λ κs a x s p. both p.0 p.1) (room, at, d) (answer, left) m

samples-emitted : (s : signalling-sender.Sender) (n : ℕ) (answer : Result (Option signalling-layout.Signalling) Refusal) (after : signalling-sender.Sender) (octets : List ℕ)
    → ((d : signalling-layout.Signalling) → answer ≡ Ok (Some d) → Puts (SignallingPut d) octets)
    → signalling.emitted_as s n (record { answer = answer; sender = after }) octets ≡ signalling.emitted s n (record { answer = answer; sender = after })
samples-emitted s n (Ok (Some d)) after octets puts =
    ap (signalling.emitted_as s n (record { answer = Ok (Some d); sender = after })) (puts-are (SignallingPut d) (signalling_made d) (signalling_put d) octets (puts d refl))
samples-emitted s n (Ok None) after octets puts = refl
samples-emitted s n (Err refusal) after octets puts = refl

samples-sent : (s : signalling-sender.Sender) (n : ℕ) (es : List signalling-entry.Entry) (ps : List Emission) → SignallingSent s n es ps → ps ≡ signalling.emissions s n es
samples-sent s0 n0 es0 ps0 (no_more_samples s n) = refl
samples-sent s0 n0 es0 ps0 (samples_on s n e es x octets ps call puts more) =
    let is : x ≡ sent s e =
    comes_of 1 signalling-send-kinds.ps signalling-send-kinds.r signalling-send-reads.Post _ _ (λ (i : signalling-sender.Sender × signalling-entry.Entry). sent i.0 i.1) (λ κs a x s p. ap₂ (λ y t. record { answer = y; sender = t }) p.0 p.1) (s, e) x call
    in
    ap₂ (λ (l r : List Emission). l ++ r) (samples-emitted s n x.answer x.sender octets puts) (samples-sent x.sender (signalling.number_after s n x) es ps more)
    ∙ ap (λ (t : Sent). signalling.emitted s n t ++ signalling.emissions t.sender (signalling.number_after s n t) es) is

samples-received : (r : signalling_receiver.Receiver) (ps : List Emission) (xs : List seized.Received) → SignallingReceived r ps xs → xs ≡ signalling.answers r ps
samples-received r0 ps0 xs0 (no_more_come r) = refl
samples-received r0 ps0 xs0 (comes_on r p ps x xs call more) =
    let is : x ≡ seized.received r p.octets =
    comes_of 2 signalling-receive-kinds.ps signalling-receive-kinds.r signalling-receive-reads.Post _ _ (λ (i : signalling_receiver.Receiver × List ℕ). seized.received i.0 i.1) (λ κs a x s p. ap₂ (λ y t. record { answer = y; receiver = t }) p.0 p.1) (r, p.octets) x call
    in
    ap (λ (l : List seized.Received). x ∷ l) (samples-received x.receiver ps xs more)
    ∙ ap (λ (y : seized.Received). y ∷ signalling.answers y.receiver ps) is

-- a trunk
told_is : (kind : ℕ) (found : Option Record) (t : Trunk) (c : Coming) → taken t found (type_of kind c) (octets_in c) ≡ told_of kind found t c
told_is kind found t (came p) = refl
told_is kind found t (other ptype octets) = refl

trunk_told : (kind : ℕ) (found : Option Record) (t : Trunk) (cs : List Coming) (xs : List Told) → TrunkTold kind found t cs xs → xs ≡ tellings kind found t cs
trunk_told kind found t0 cs0 xs0 (no_more_told t) = refl
trunk_told kind found t0 cs0 xs0 (tells_on t c cs x xs call more) =
    let is : x ≡ told_of kind found t c =
    comes_of 2 take-kinds.ps take-kinds.r take-reads.Post _ _ (λ (i : Trunk × Option Record × ℕ × List ℕ). taken i.0 i.1 i.2 i.3) (λ κs a x s p. ap₂ (λ y u. record { answer = y; trunk = u }) p.0 p.1) (t, found, type_of kind c, octets_in c) x call
    ∙ told_is kind found t c
    in
    ap (λ (l : List Told). x ∷ l) (trunk_told kind found x.trunk cs xs more) ∙ ap (λ (y : Told). y ∷ tellings kind found y.trunk cs) is

pub calls_are : CallsAre
calls_are =
    record {
      digits_sent = digits_sent;
      digits_received = digits_received;
      signalling_sent = samples-sent;
      signalling_received = samples-received;
      trunk_told = trunk_told;
    }

-- demand 3 of calls
pub digit-calls-carried : DigitCallsCarried
digit-calls-carried entries first second answers answers2 calls =
    let sender : calls.sender ≡ fresh_sender =
    comes_of 0 digit-sender-kinds.ps digit-sender-kinds.r digit-sender-reads.Post _ _ (λ (i : Unit {0}). fresh_sender) (λ κs a x s p. p) (tt {0}) calls.sender calls.sender_fresh
    in
    let is-fresh = comes_of 0 digit-receiver-kinds.ps digit-receiver-kinds.r digit-receiver-reads.Post _ _ (λ (i : Unit {0}). dialled.fresh_receiver) (λ κs a x s p. p) (tt {0}) in
    let payloads : calls.payloads ≡ digits.emissions fresh_sender 0 entries =
    digits_sent calls.sender 0 entries calls.payloads calls.sends ∙ ap (λ (s : digit_sender.Sender). digits.emissions s 0 entries) sender
    in
    let one : answers ≡ digits.answers dialled.fresh_receiver first =
    digits_received calls.receiver first answers calls.receives ∙ ap (λ (r : digit_receiver.Receiver). digits.answers r first) (is-fresh calls.receiver calls.receiver_fresh)
    in
    let two : answers2 ≡ digits.answers dialled.fresh_receiver second =
    digits_received calls.receiver2 second answers2 calls.receives2 ∙ ap (λ (r : digit_receiver.Receiver). digits.answers r second) (is-fresh calls.receiver2 calls.receiver2_fresh)
    in
    rw (one, two)
    (digits-carried entries first second
    (record {
      some = subst (AllIn (digits.payloads_of first)) payloads calls.some;
      some2 = subst (AllIn (digits.payloads_of second)) payloads calls.some2;
      arriving = calls.arriving;
      arriving2 = calls.arriving2;
      more = calls.more;
    }))

-- a sender that `start` answers is that of the value
starts-from : (start : ℕ) (s : signalling-sender.Sender) → Ok s ≡ started start → s ≡ sender_from start
starts-from start s is =
    either (λ yes. let starts : started start ≡ Ok (sender_from start) = rw yes refl in cc)
    (λ no. let refuses : started start ≡ Err ValueOutOfRange = rw no refl in absurd cc)
    (allowed start)
    refl

pub signalling-calls-carried : SignallingCallsCarried
signalling-calls-carried start entries first second answers answers2 calls =
    let starts : Ok calls.sender ≡ started start =
    comes_of 0 start-kinds.ps start-kinds.r start-reads.Post _ _ (λ (i : ℕ). started i) (λ κs a x s p. p) start (Ok calls.sender) calls.starts
    in
    let begun : calls.sender ≡ sender_from start = starts-from start calls.sender starts in
    let is-fresh = comes_of 0 signalling-receiver-kinds.ps signalling-receiver-kinds.r signalling-receiver-reads.Post _ _ (λ (i : Unit {0}). seized.fresh_receiver) (λ κs a x s p. p) (tt {0}) in
    let payloads : calls.payloads ≡ signalling.emissions (sender_from start) 0 entries =
    samples-sent calls.sender 0 entries calls.payloads calls.sends ∙ ap (λ (s : signalling-sender.Sender). signalling.emissions s 0 entries) begun
    in
    let one : answers ≡ signalling.answers seized.fresh_receiver first =
    samples-received calls.receiver first answers calls.receives ∙ ap (λ (r : signalling_receiver.Receiver). signalling.answers r first) (is-fresh calls.receiver calls.receiver_fresh)
    in
    let two : answers2 ≡ signalling.answers seized.fresh_receiver second =
    samples-received calls.receiver2 second answers2 calls.receives2 ∙ ap (λ (r : signalling_receiver.Receiver). signalling.answers r second) (is-fresh calls.receiver2 calls.receiver2_fresh)
    in
    rw (one, two)
    (signalling-carried start entries first second
    (record {
      begins = sym starts ∙ ap (λ (s : signalling-sender.Sender). Ok s) begun;
      ten = calls.ten;
      some = subst (AllIn first) payloads calls.some;
      some2 = subst (AllIn second) payloads calls.some2;
      arriving = calls.arriving;
      arriving2 = calls.arriving2;
      more = calls.more;
    }))

-- and of trunks
fresh-trunk : (t : Trunk) → FreshTrunk t → t ≡ fresh_trunk
fresh-trunk t m = comes_of 0 trunk-kinds.ps trunk-kinds.r trunk-reads.Post _ _ (λ (i : Unit {0}). fresh_trunk) (λ κs a x s p. p) (tt {0}) t m

told_fresh : (kind : ℕ) (found : Option Record) (t : Trunk) (cs : List Coming) (xs : List Told) → FreshTrunk t → TrunkTold kind found t cs xs → xs ≡ tellings kind found fresh_trunk cs
told_fresh kind found t cs xs fresh told = trunk_told kind found t cs xs told ∙ ap (λ (u : Trunk). tellings kind found u cs) (fresh-trunk t fresh)

pub trunk-digit-calls-carried : TrunkDigitCallsCarried
trunk-digit-calls-carried found entries first second t t2 told told2 given fresh fresh2 calls calls2 =
    rw (told_fresh 1 found t first told fresh calls, told_fresh 1 found t2 second told2 fresh2 calls2) (trunk-digits-carried found entries first second given)

pub trunk-signalling-calls-carried : TrunkSignallingCallsCarried
trunk-signalling-calls-carried found start entries first second t t2 told told2 given fresh fresh2 calls calls2 =
    rw (told_fresh 2 found t first told fresh calls, told_fresh 2 found t2 second told2 fresh2 calls2) (trunk-signalling-carried found start entries first second given)
