-- Demand 3 speaks of definitions, and these are what the functions' contracts say: results that meet the contract of a function
-- (`Post`, which the kit makes of it) are the definition's, and so is what a lent buffer or a sender, receiver or trunk (`&mut self`) holds then; and
-- what comes of calls that meet them, one after the other, is what demand 3 speaks of. Where a contract cited another definition,
-- this would have no proof. Proved in proofs/Tied.antt and proofs/Calls.antt.
use Rattle.std.specs.Prelude.{ℕ, ◌≡◌, List, [], ◌∷◌, ◌++◌, take, drop, Option, Some, Result, Ok}
use Rattle.contracts.specs.Meeting.{Answers, Leaves, Met}
use Rattle.refusal.specs.declared.Refusal.{Refusal}
use Rattle.octets.specs.Made.{put_made, left_made}
use Rattle.record.specs.declared.syntax.Record.{Record}
use Rattle.digits.specs.declared.layout.Digits as digits-layout
use Rattle.signalling.specs.declared.layout.Signalling as signalling-layout
use Rattle.dialling.specs.declared.Entry as digit-entry
use Rattle.dialling.specs.declared.Sender as digit_sender
use Rattle.dialled.specs.declared.Receiver as digit_receiver
use Rattle.seizing.specs.declared.Entry as signalling-entry
use Rattle.seizing.specs.declared.Sender as signalling-sender
use Rattle.seized.specs.declared.Receiver as signalling_receiver
use Rattle.trunk.specs.declared.Trunk.{Trunk}
use Rattle.digits.specs.Layout.{digits_made}
use Rattle.signalling.specs.Layout.{signalling_made}
use Rattle.dialling.specs.Sender.{Taken, fresh_sender, sending}
use Rattle.dialled.specs.Receiver as dialled
use Rattle.seizing.specs.Sender.{Sent, started, sent}
use Rattle.seized.specs.Receiver as seized
use Rattle.trunk.specs.Trunk.{Told, fresh_trunk, taken}
use Rattle.replay.specs.Periods.{fresh_of, Among, AllIn}
use Rattle.replay.specs.Claims.{Arriving, BothTake}
use Rattle.carried.specs.Emissions.{Emission}
use Rattle.carried.specs.Digits as digits
use Rattle.carried.specs.Signalling as signalling
use Rattle.carried.specs.Trunks.{Coming, came, other, arrivals, tellings, numbers_in, digit_marks, signalling_marks, DigitsGiven, SignallingGiven}
use Rattle.dialling.proofs.Sender.fresh.Kinds as digit-sender-kinds
use Rattle.dialling.proofs.Sender.fresh.Reads as digit-sender-reads
use Rattle.dialling.proofs.Sender.send.Kinds as digit-send-kinds
use Rattle.dialling.proofs.Sender.send.Reads as digit-send-reads
use Rattle.dialled.proofs.Receiver.fresh.Kinds as digit-receiver-kinds
use Rattle.dialled.proofs.Receiver.fresh.Reads as digit-receiver-reads
use Rattle.dialled.proofs.Receiver.receive.Kinds as digit-receive-kinds
use Rattle.dialled.proofs.Receiver.receive.Reads as digit-receive-reads
use Rattle.dialled.proofs.Receiver.hear_voice.Kinds as hear-voice-kinds
use Rattle.dialled.proofs.Receiver.hear_voice.Reads as hear-voice-reads
use Rattle.digits.proofs.layout.put_digits.Kinds as put-digits-kinds
use Rattle.digits.proofs.layout.put_digits.Reads as put-digits-reads
use Rattle.seizing.proofs.Sender.start.Kinds as start-kinds
use Rattle.seizing.proofs.Sender.start.Reads as start-reads
use Rattle.seizing.proofs.Sender.send.Kinds as signalling-send-kinds
use Rattle.seizing.proofs.Sender.send.Reads as signalling-send-reads
use Rattle.seized.proofs.Receiver.fresh.Kinds as signalling-receiver-kinds
use Rattle.seized.proofs.Receiver.fresh.Reads as signalling-receiver-reads
use Rattle.seized.proofs.Receiver.receive.Kinds as signalling-receive-kinds
use Rattle.seized.proofs.Receiver.receive.Reads as signalling-receive-reads
use Rattle.signalling.proofs.layout.put_signalling.Kinds as put-signalling-kinds
use Rattle.signalling.proofs.layout.put_signalling.Reads as put-signalling-reads
use Rattle.trunk.proofs.Trunk.fresh.Kinds as trunk-kinds
use Rattle.trunk.proofs.Trunk.fresh.Reads as trunk-reads
use Rattle.trunk.proofs.Trunk.take.Kinds as take-kinds
use Rattle.trunk.proofs.Trunk.take.Reads as take-reads

pub record Tied : Type 0 where
  pub digit_sender : Answers 0 digit-sender-kinds.ps digit-sender-kinds.r (λ κs a. fresh_sender) digit-sender-reads.Post
  pub digit_send : Answers 1 digit-send-kinds.ps digit-send-kinds.r (λ κs a. (sending a.0.now a.1.0).answer) digit-send-reads.Post
  pub digit_sender_after : Leaves 1 digit-send-kinds.ps digit-send-kinds.r (λ κs s. s.0.now) (λ κs a. (sending a.0.now a.1.0).sender) digit-send-reads.Post
  pub digits_put : Answers 1 put-digits-kinds.ps put-digits-kinds.r (λ κs a. put_made a.0.now a.1.0 (digits_made a.1.1.0)) put-digits-reads.Post
  pub digits_left : Leaves 1 put-digits-kinds.ps put-digits-kinds.r (λ κs s. s.0.now) (λ κs a. left_made a.0.now a.1.0 (digits_made a.1.1.0)) put-digits-reads.Post
  pub digit_receiver : Answers 0 digit-receiver-kinds.ps digit-receiver-kinds.r (λ κs a. dialled.fresh_receiver) digit-receiver-reads.Post
  pub digit_receive : Answers 2 digit-receive-kinds.ps digit-receive-kinds.r (λ κs a. (dialled.received a.0.now a.1.0.now).answer) digit-receive-reads.Post
  pub digit_receiver_after : Leaves 2 digit-receive-kinds.ps digit-receive-kinds.r (λ κs s. s.0.now) (λ κs a. (dialled.received a.0.now a.1.0.now).receiver) digit-receive-reads.Post
  pub hear_voice : Leaves 1 hear-voice-kinds.ps hear-voice-kinds.r (λ κs s. s.0.now) (λ κs a. dialled.voice_heard a.0.now) hear-voice-reads.Post
  pub start : Answers 0 start-kinds.ps start-kinds.r (λ κs a. started a.0) start-reads.Post
  pub signalling_send : Answers 1 signalling-send-kinds.ps signalling-send-kinds.r (λ κs a. (sent a.0.now a.1.0).answer) signalling-send-reads.Post
  pub signalling_sender_after : Leaves 1 signalling-send-kinds.ps signalling-send-kinds.r (λ κs s. s.0.now) (λ κs a. (sent a.0.now a.1.0).sender) signalling-send-reads.Post
  pub signalling_put : Answers 1 put-signalling-kinds.ps put-signalling-kinds.r (λ κs a. put_made a.0.now a.1.0 (signalling_made a.1.1.0)) put-signalling-reads.Post
  pub signalling_left : Leaves 1 put-signalling-kinds.ps put-signalling-kinds.r (λ κs s. s.0.now) (λ κs a. left_made a.0.now a.1.0 (signalling_made a.1.1.0)) put-signalling-reads.Post
  pub signalling_receiver : Answers 0 signalling-receiver-kinds.ps signalling-receiver-kinds.r (λ κs a. seized.fresh_receiver) signalling-receiver-reads.Post
  pub signalling_receive : Answers 2 signalling-receive-kinds.ps signalling-receive-kinds.r (λ κs a. (seized.received a.0.now a.1.0.now).answer) signalling-receive-reads.Post
  pub signalling_receiver_after : Leaves 2 signalling-receive-kinds.ps signalling-receive-kinds.r (λ κs s. s.0.now) (λ κs a. (seized.received a.0.now a.1.0.now).receiver) signalling-receive-reads.Post
  pub trunk : Answers 0 trunk-kinds.ps trunk-kinds.r (λ κs a. fresh_trunk) trunk-reads.Post
  pub take : Answers 2 take-kinds.ps take-kinds.r (λ κs a. (taken a.0.now a.1.0 a.1.1.0 a.1.1.1.0.now).answer) take-reads.Post
  pub trunk_after : Leaves 2 take-kinds.ps take-kinds.r (λ κs s. s.0.now) (λ κs a. (taken a.0.now a.1.0 a.1.1.0 a.1.1.1.0.now).trunk) take-reads.Post

-- Octets that a call of a put function left in lent room, from where it was told to write to where it said that they end. `Call`
-- is the call: of the room, the place, the answer, and the room then.
pub record Puts (Call : List ℕ → ℕ → Result ℕ Refusal → List ℕ → Type 0) (octets : List ℕ) : Type 0 where
  pub room : List ℕ
  pub at : ℕ
  pub next : ℕ
  pub left : List ℕ
  pub call : Call room at (Ok next) left
  pub stands : octets ≡ drop at (take next left)

-- The digit sender: calls of `send`, each handed the sender as the one before left it, and of `put_digits` for what is sent.
abbrev pub DigitsPut : digits-layout.Digits → List ℕ → ℕ → Result ℕ Refusal → List ℕ → Type 0
DigitsPut d room at answer left =
    Met 1 put-digits-kinds.ps put-digits-kinds.r put-digits-reads.Post {I = List ℕ × ℕ × digits-layout.Digits} {O = Result ℕ Refusal × List ℕ} (λ κs a. (a.0.now, a.1.0, a.1.1.0)) (λ κs x s. (x, s.0.now)) (room, at, d) (answer, left)

pub data DigitCallsSent : digit_sender.Sender → ℕ → List digit-entry.Entry → List Emission → Type 0 where
  no_more_digits : (s : digit_sender.Sender) (n : ℕ) → DigitCallsSent s n [] []
  digits_on : (s : digit_sender.Sender) (n : ℕ) (e : digit-entry.Entry) (es : List digit-entry.Entry) (x : Taken) (octets : List ℕ) (ps : List Emission)
      → Met 1 digit-send-kinds.ps digit-send-kinds.r digit-send-reads.Post {I = digit_sender.Sender × digit-entry.Entry} {O = Taken} (λ κs a. (a.0.now, a.1.0)) (λ κs x s. record { answer = x; sender = s.0.now }) (s, e) x
      → ((d : digits-layout.Digits) → x.answer ≡ Ok (Some d) → Puts (DigitsPut d) octets)
      → DigitCallsSent x.sender (digits.number_after n x.answer) es ps
      → DigitCallsSent s n (e ∷ es) (digits.emitted_as n x.answer octets ++ ps)

-- A digit receiver: calls of `receive` and `hear_voice`, each handed the receiver as the one before left it; and the answers.
pub data DigitsReceived : digit_receiver.Receiver → List digits.Heard → List dialled.Received → Type 0 where
  no_more_heard : (r : digit_receiver.Receiver) → DigitsReceived r [] []
  receives_on : (r : digit_receiver.Receiver) (p : Emission) (hs : List digits.Heard) (x : dialled.Received) (xs : List dialled.Received)
      → Met 2 digit-receive-kinds.ps digit-receive-kinds.r digit-receive-reads.Post {I = digit_receiver.Receiver × List ℕ} {O = dialled.Received} (λ κs a. (a.0.now, a.1.0.now)) (λ κs x s. record { answer = x; receiver = s.0.now }) (r, p.octets) x
      → DigitsReceived x.receiver hs xs
      → DigitsReceived r (digits.came p ∷ hs) (x ∷ xs)
  hears_on : (r after : digit_receiver.Receiver) (hs : List digits.Heard) (xs : List dialled.Received)
      → Met 1 hear-voice-kinds.ps hear-voice-kinds.r hear-voice-reads.Post {I = digit_receiver.Receiver} {O = digit_receiver.Receiver} (λ κs a. a.0.now) (λ κs x s. s.0.now) r after
      → DigitsReceived after hs xs
      → DigitsReceived r (digits.voice ∷ hs) xs

-- The signalling sender and a signalling receiver, in the same way.
abbrev pub SignallingPut : signalling-layout.Signalling → List ℕ → ℕ → Result ℕ Refusal → List ℕ → Type 0
SignallingPut d room at answer left =
    Met 1 put-signalling-kinds.ps put-signalling-kinds.r put-signalling-reads.Post {I = List ℕ × ℕ × signalling-layout.Signalling} {O = Result ℕ Refusal × List ℕ} (λ κs a. (a.0.now, a.1.0, a.1.1.0)) (λ κs x s. (x, s.0.now)) (room, at, d) (answer, left)

pub data SignallingSent : signalling-sender.Sender → ℕ → List signalling-entry.Entry → List Emission → Type 0 where
  no_more_samples : (s : signalling-sender.Sender) (n : ℕ) → SignallingSent s n [] []
  samples_on : (s : signalling-sender.Sender) (n : ℕ) (e : signalling-entry.Entry) (es : List signalling-entry.Entry) (x : Sent) (octets : List ℕ) (ps : List Emission)
      → Met 1 signalling-send-kinds.ps signalling-send-kinds.r signalling-send-reads.Post {I = signalling-sender.Sender × signalling-entry.Entry} {O = Sent} (λ κs a. (a.0.now, a.1.0)) (λ κs x s. record { answer = x; sender = s.0.now }) (s, e) x
      → ((d : signalling-layout.Signalling) → x.answer ≡ Ok (Some d) → Puts (SignallingPut d) octets)
      → SignallingSent x.sender (signalling.number_after s n x) es ps
      → SignallingSent s n (e ∷ es) (signalling.emitted_as s n x octets ++ ps)

pub data SignallingReceived : signalling_receiver.Receiver → List Emission → List seized.Received → Type 0 where
  no_more_come : (r : signalling_receiver.Receiver) → SignallingReceived r [] []
  comes_on : (r : signalling_receiver.Receiver) (p : Emission) (ps : List Emission) (x : seized.Received) (xs : List seized.Received)
      → Met 2 signalling-receive-kinds.ps signalling-receive-kinds.r signalling-receive-reads.Post {I = signalling_receiver.Receiver × List ℕ} {O = seized.Received} (λ κs a. (a.0.now, a.1.0.now)) (λ κs x s. record { answer = x; receiver = s.0.now }) (r, p.octets) x
      → SignallingReceived x.receiver ps xs
      → SignallingReceived r (p ∷ ps) (x ∷ xs)

-- A trunk: calls of `take`, each handed the trunk as the one before left it. The sender's payloads have the type `kind`.
abbrev pub type_of : ℕ → Coming → ℕ
type_of kind (came p) = kind
type_of kind (other ptype octets) = ptype

abbrev pub octets_in : Coming → List ℕ
octets_in (came p) = p.octets
octets_in (other ptype octets) = octets

pub data TrunkTold (kind : ℕ) (found : Option Record) : Trunk → List Coming → List Told → Type 0 where
  no_more_told : (t : Trunk) → TrunkTold kind found t [] []
  tells_on : (t : Trunk) (c : Coming) (cs : List Coming) (x : Told) (xs : List Told)
      → Met 2 take-kinds.ps take-kinds.r take-reads.Post {I = Trunk × Option Record × ℕ × List ℕ} {O = Told} (λ κs a. (a.0.now, a.1.0, a.1.1.0, a.1.1.1.0.now)) (λ κs x s. record { answer = x; trunk = s.0.now }) (t, found, type_of kind c, octets_in c) x
      → TrunkTold kind found x.trunk cs xs
      → TrunkTold kind found t (c ∷ cs) (x ∷ xs)

-- What comes of such calls is what demand 3 speaks of.
pub record CallsAre : Type 0 where
  pub digits_sent : (s : digit_sender.Sender) (n : ℕ) (es : List digit-entry.Entry) (ps : List Emission) → DigitCallsSent s n es ps → ps ≡ digits.emissions s n es
  pub digits_received : (r : digit_receiver.Receiver) (hs : List digits.Heard) (xs : List dialled.Received) → DigitsReceived r hs xs → xs ≡ digits.answers r hs
  pub signalling_sent : (s : signalling-sender.Sender) (n : ℕ) (es : List signalling-entry.Entry) (ps : List Emission) → SignallingSent s n es ps → ps ≡ signalling.emissions s n es
  pub signalling_received : (r : signalling_receiver.Receiver) (ps : List Emission) (xs : List seized.Received) → SignallingReceived r ps xs → xs ≡ signalling.answers r ps
  pub trunk_told : (kind : ℕ) (found : Option Record) (t : Trunk) (cs : List Coming) (xs : List Told) → TrunkTold kind found t cs xs → xs ≡ tellings kind found t cs

-- So demand 3 holds of calls: a sender and two receivers, each begun with what its `fresh` or `start` returns.
pub record DigitCalls (entries : List digit-entry.Entry) (first second : List digits.Heard) (answers answers2 : List dialled.Received) : Type 0 where
  pub sender : digit_sender.Sender
  pub receiver : digit_receiver.Receiver
  pub receiver2 : digit_receiver.Receiver
  pub payloads : List Emission
  pub sender_fresh : Met 0 digit-sender-kinds.ps digit-sender-kinds.r digit-sender-reads.Post (λ κs a. tt {0}) (λ κs x s. x) (tt {0}) sender
  pub receiver_fresh : Met 0 digit-receiver-kinds.ps digit-receiver-kinds.r digit-receiver-reads.Post (λ κs a. tt {0}) (λ κs x s. x) (tt {0}) receiver
  pub receiver2_fresh : Met 0 digit-receiver-kinds.ps digit-receiver-kinds.r digit-receiver-reads.Post (λ κs a. tt {0}) (λ κs x s. x) (tt {0}) receiver2
  pub sends : DigitCallsSent sender 0 entries payloads
  pub receives : DigitsReceived receiver first answers
  pub receives2 : DigitsReceived receiver2 second answers2
  pub some : AllIn (digits.payloads_of first) payloads
  pub some2 : AllIn (digits.payloads_of second) payloads
  pub arriving : Arriving dialled.farthest digits.most_behind (digits.arrivals first)
  pub arriving2 : Arriving dialled.farthest digits.most_behind (digits.arrivals second)
  pub more : Among (fresh_of (digits.arrivals first)) (fresh_of (digits.arrivals second))

abbrev pub DigitCallsCarried : Type 0
DigitCallsCarried =
    (entries : List digit-entry.Entry) (first second : List digits.Heard) (answers answers2 : List dialled.Received)
    → DigitCalls entries first second answers answers2
    → BothTake (digits.period_of entries) (digits.arrivals first) (digits.marks_in answers) (digits.numbers_in answers) (digits.arrivals second) (digits.marks_in answers2) (digits.numbers_in answers2)

pub record SignallingCalls (start : ℕ) (entries : List signalling-entry.Entry) (first second : List Emission) (answers answers2 : List seized.Received) : Type 0 where
  pub sender : signalling-sender.Sender
  pub receiver : signalling_receiver.Receiver
  pub receiver2 : signalling_receiver.Receiver
  pub payloads : List Emission
  pub starts : Met 0 start-kinds.ps start-kinds.r start-reads.Post {O = Result signalling-sender.Sender Refusal} (λ κs a. a.0) (λ κs x s. x) start (Ok sender)
  pub receiver_fresh : Met 0 signalling-receiver-kinds.ps signalling-receiver-kinds.r signalling-receiver-reads.Post (λ κs a. tt {0}) (λ κs x s. x) (tt {0}) receiver
  pub receiver2_fresh : Met 0 signalling-receiver-kinds.ps signalling-receiver-kinds.r signalling-receiver-reads.Post (λ κs a. tt {0}) (λ κs x s. x) (tt {0}) receiver2
  pub sends : SignallingSent sender 0 entries payloads
  pub receives : SignallingReceived receiver first answers
  pub receives2 : SignallingReceived receiver2 second answers2
  pub ten : signalling.TenEach entries
  pub some : AllIn first payloads
  pub some2 : AllIn second payloads
  pub arriving : Arriving seized.farthest signalling.most_behind (signalling.arrivals first)
  pub arriving2 : Arriving seized.farthest signalling.most_behind (signalling.arrivals second)
  pub more : Among (fresh_of (signalling.arrivals first)) (fresh_of (signalling.arrivals second))

abbrev pub SignallingCallsCarried : Type 0
SignallingCallsCarried =
    (start : ℕ) (entries : List signalling-entry.Entry) (first second : List Emission) (answers answers2 : List seized.Received)
    → SignallingCalls start entries first second answers answers2
    → BothTake (signalling.period_of start entries) (signalling.arrivals first) (signalling.marks_in answers) (signalling.numbers_in answers) (signalling.arrivals second) (signalling.marks_in answers2) (signalling.numbers_in answers2)

-- And of two trunks, each begun with what `fresh` returns.
abbrev pub FreshTrunk : Trunk → Type 0
FreshTrunk t = Met 0 trunk-kinds.ps trunk-kinds.r trunk-reads.Post (λ κs a. tt {0}) (λ κs x s. x) (tt {0}) t

abbrev pub TrunkDigitCallsCarried : Type 0
TrunkDigitCallsCarried =
    (found : Option Record) (entries : List digit-entry.Entry) (first second : List Coming) (t t2 : Trunk) (told told2 : List Told)
    → DigitsGiven found entries first second
    → FreshTrunk t
    → FreshTrunk t2
    → TrunkTold 1 found t first told
    → TrunkTold 1 found t2 second told2
    → BothTake (digits.period_of entries) (arrivals first) (digit_marks told) (numbers_in first told) (arrivals second) (digit_marks told2) (numbers_in second told2)

abbrev pub TrunkSignallingCallsCarried : Type 0
TrunkSignallingCallsCarried =
    (found : Option Record) (start : ℕ) (entries : List signalling-entry.Entry) (first second : List Coming) (t t2 : Trunk) (told told2 : List Told)
    → SignallingGiven found start entries first second
    → FreshTrunk t
    → FreshTrunk t2
    → TrunkTold 2 found t first told
    → TrunkTold 2 found t2 second told2
    → BothTake (signalling.period_of start entries) (arrivals first) (signalling_marks told) (numbers_in first told) (arrivals second) (signalling_marks told2) (numbers_in second told2)
