-- Document 01: "A refusal returns its number alone and changes no lent byte." So does a line: an answer that does not begin with 00 has one byte, and every byte
-- of the state is as it was, whichever of the calls refused.
use Prim.Native.Nat.{ℕ, ◌+◌, ◌-◌, ◌*◌, ◌≤◌}
use mathlib.Core.Path.{◌≡◌, refl, sym, ap, ap₂, ◌∙◌}
use mathlib.Core.Bool.{Bool, true, false, ◌||◌, not, cond}
use mathlib.Core.List.{List, [], ◌∷◌, ◌++◌, append_assoc}
use native.Mathlib.Omega.{arith}
use borrow.Author.Tests.{ltb-false}
use lib.Dec.{ltb, eqb}
use lib.ListN.{length, get_or, take, drop, replicate, take-append-drop, length-drop}
use lib.Seq.{length-take-le, drop-drop}
use Rattle.image.specs.Layout.{largest, yield_limit, length_of, is_count}
use Rattle.image.specs.Encode.{table_of}
use Rattle.image.specs.Check.{bad_stall, checked}
use Rattle.image.specs.declared.Header.{Header}
use Rattle.image.specs.declared.Checked.{Checked}
use Rattle.image.specs.declared.Checked.TheVariants.{Good, Refused}
use Rattle.image.proofs.Passing.{either}
use Rattle.image.proofs.Accepted.{accepted}
use Rattle.head.specs.Calls.{refused, accepted as done, with_current, milked, milking_call}
use Rattle.head.specs.Heard.{heard_call}
use Rattle.head.specs.Settled.{settled_call}
use Rattle.merge.specs.Verdict.{undecided}
use Rattle.merge.specs.Call.{MeetingOutcome, refused_meeting, accepted_meeting, met_together, met_good, met_checked, meeting_call}
use Rattle.merge.proofs.label.NewLabel.{new_label_most}
use Rattle.line.specs.Parlour.{state_length, heads_of, is_open, slot_place, image_of, with_image, fresh_state}
use Rattle.line.specs.Answer.{Reply, refusal, opening, milked_by, milking, met_by, meeting_of, meeting, showing, heard_by, hearing, settled_by, settling, reply_to}
use Rattle.line.specs.declared.frame.Frame.{Frame}
use Rattle.line.specs.declared.frame.Frame.TheVariants.{Open, Milking, Meeting, Show, Heard, Settled, Bad}
use Rattle.line.proofs.Slots.{slot_fits}
use Rattle.line.proofs.Replying.{count_range, stall_of}

-- a call that refuses leaves what it was lent
milking_keeps : (s : List ℕ) (yield : ℕ) → ((milking_call s yield).answer ≡ 0 → ⊥) → (milking_call s yield).image ≡ s
unfolding milking_call milked
milking_keeps s yield f = go (checked s) f
  where
    over : (b : Bool) → ((cond b (refused 4 s) (done (with_current s yield))).answer ≡ 0 → ⊥) → (cond b (refused 4 s) (done (with_current s yield))).image ≡ s
    over true g = refl
    over false g = absurd (g refl)

    go : (x : Checked) → ((milked s yield x).answer ≡ 0 → ⊥) → (milked s yield x).image ≡ s
    go (Good h) g = over (ltb yield_limit yield) g
    go (Refused number) g = refl

module _ (s u buffer : List ℕ) where
  abbrev Kept : MeetingOutcome → Type 0
  Kept o = 256 ≤ o.answer → (o.first ≡ s) × (o.second ≡ u)

  together_keeps : (n p q : ℕ) → n ≤ largest → Kept (met_together s u buffer n p q)
  unfolding met_together
  together_keeps n p q l =
      either Kept (undecided n p (table_of s n) q (table_of u n)) {x = refused_meeting s u buffer 9} {y = accepted_meeting s u buffer n p q} (λ _. (refl, refl))
      (λ k. absurd (omega (arith, new_label_most n p (table_of s n) q (table_of u n))))

  good_keeps : (h g : Header) → h.n ≤ largest → Kept (met_good s u buffer h g)
  unfolding met_good
  good_keeps h g l =
      either Kept (not (eqb h.n g.n) || eqb h.stall g.stall) {x = refused_meeting s u buffer 7} (λ _. (refl, refl))
      (either Kept (not (eqb (length buffer) h.n)) {x = refused_meeting s u buffer 8} {y = met_together s u buffer h.n h.stall g.stall} (λ _. (refl, refl))
      (together_keeps h.n h.stall g.stall l))

  meeting_keeps : Kept (meeting_call s u buffer)
  unfolding meeting_call met_checked
  meeting_keeps = go (checked s) (checked u) refl
    where
      go : (x y : Checked) → checked s ≡ x → Kept (met_checked s u buffer x y)
      go (Refused number) y e = λ _. (refl, refl)
      go (Good h) (Refused number) e = λ _. (refl, refl)
      go (Good h) (Good g) e = good_keeps h g (accepted s h e).frame.n_to

-- an image put back where it stands
module _ (state : List ℕ) (long : length state ≡ state_length) (opened : is_open state ≡ true) where
  put_back : (r : ℕ) → bad_stall (heads_of state) r ≡ false → with_image state r (image_of state r) ≡ state
  unfolding with_image image_of
  put_back r e =
      let (a, b) = count_range (heads_of state) opened in
      let w = stall_of (heads_of state) r e in
      let fits = slot_fits (heads_of state) r a b w.from w.to in
      let size : length (take (length_of (heads_of state)) (drop (slot_place r) state)) ≡ length_of (heads_of state) =
      length-take-le (length_of (heads_of state)) (drop (slot_place r) state) (omega (arith, length-drop (slot_place r) state, fits)) in
      ap (λ k. take (slot_place r) state ++ take (length_of (heads_of state)) (drop (slot_place r) state) ++ drop (slot_place r + k) state) size
      ∙ append_assoc (take (slot_place r) state) _ _
      ∙ ap (λ x. take (slot_place r) state ++ (take (length_of (heads_of state)) (drop (slot_place r) state) ++ x)) (sym (drop-drop (length_of (heads_of state)) (slot_place r) state))
      ∙ ap (λ x. take (slot_place r) state ++ x) (take-append-drop (length_of (heads_of state)) (drop (slot_place r) state))
      ∙ take-append-drop (slot_place r) state

-- the number alone, and the state as it was
abbrev Alone : List ℕ → Reply → Type 0
Alone state reply = (get_or reply.bytes 0 0 ≡ 0 → ⊥) → (length reply.bytes ≡ 1) × (reply.state ≡ state)

module _ (state : List ℕ) where
  refused_alone : (number : ℕ) → Alone state (refusal state number)
  refused_alone number f = (refl, refl)

  choice : (b : Bool) (x y : Reply) → (b ≡ true → Alone state x) → (b ≡ false → Alone state y) → Alone state (cond b x y)
  choice true x y p q = p refl
  choice false x y p q = q refl

  opening_alone : (n : ℕ) → Alone state (opening state n)
  unfolding opening
  opening_alone n = choice (is_count n) (record { bytes = 0 ∷ []; state = fresh_state n }) (refusal state 1) (λ _ f. absurd (f refl)) (λ _. refused_alone 1)

  showing_alone : (stall : ℕ) → Alone state (showing state stall)
  unfolding showing
  showing_alone stall =
      choice (bad_stall (heads_of state) stall) (refusal state 3) (record { bytes = 0 ∷ image_of state stall; state = state }) (λ _. refused_alone 3) (λ _ f. absurd (f refl))

  -- 00 and some bytes, or a number
  told_alone : (b : Bool) (more : List ℕ) (number : ℕ) → Alone state (record { bytes = cond b (0 ∷ more) (number ∷ []); state = state })
  told_alone true more number f = absurd (f refl)
  told_alone false more number f = (refl, refl)

  hearing_alone : (stall : ℕ) → Alone state (hearing state stall)
  unfolding hearing
  hearing_alone stall =
      let o = heard_call (image_of state stall) (replicate (3 * heads_of state) 0) in
      choice (bad_stall (heads_of state) stall) (refusal state 3) (heard_by state o) (λ _. refused_alone 3)
      (λ _. told_alone (ltb o.answer 256) (o.answer ∷ take (3 * o.answer) o.records) (o.answer - 256))

  settling_alone : (stall : ℕ) → Alone state (settling state stall)
  unfolding settling
  settling_alone stall =
      let o = settled_call (image_of state stall) (replicate (heads_of state) 0) in
      choice (bad_stall (heads_of state) stall) (refusal state 3) (settled_by state o) (λ _. refused_alone 3) (λ _. told_alone (eqb o.answer 0) o.counts o.answer)

  module _ (long : length state ≡ state_length) (opened : is_open state ≡ true) where
    milking_alone : (stall yield : ℕ) → Alone state (milking state stall yield)
    unfolding milking
    milking_alone stall yield =
        choice (bad_stall (heads_of state) stall) (refusal state 3) (milked_by state stall (milking_call (image_of state stall) yield)) (λ _. refused_alone 3)
        (λ e f. (refl, ap (with_image state stall) (milking_keeps (image_of state stall) yield f) ∙ put_back state long opened stall e))

    met_alone : (p q : ℕ) → bad_stall (heads_of state) p ≡ false → bad_stall (heads_of state) q ≡ false → (o : MeetingOutcome) → Kept (image_of state p) (image_of state q) [] o
        → Alone state (met_by state p q o)
    met_alone p q i j o k = go (ltb o.answer 256) refl
      where
        go : (b : Bool) → ltb o.answer 256 ≡ b
            → Alone state (record { bytes = cond b (0 ∷ o.answer ∷ o.verdicts) ((o.answer - 256) ∷ []); state = with_image (with_image state p o.first) q o.second })
        go true e f = absurd (f refl)
        go false e f =
            let (a, c) = k (ltb-false o.answer 256 e) in (
              refl,
              ap₂ (λ x y. with_image (with_image state p x) q y) a c
                  ∙ ap (λ s. with_image s q (image_of state q)) (put_back state long opened p i) ∙ put_back state long opened q j,
            )

    meeting_alone : (p q : ℕ) → Alone state (meeting state p q)
    unfolding meeting meeting_of
    meeting_alone p q =
        choice (bad_stall (heads_of state) p) (refusal state 3) _ (λ _. refused_alone 3)
        (λ i. choice (bad_stall (heads_of state) q) (refusal state 3) _ (λ _. refused_alone 3)
        (λ j. choice (eqb p q) (refusal state 7) _ (λ _. refused_alone 7)
        (λ _. met_alone p q i j (meeting_call (image_of state p) (image_of state q) (replicate (heads_of state) 0))
        (meeting_keeps (image_of state p) (image_of state q) (replicate (heads_of state) 0)))))

pub refusal_alone : (state : List ℕ) (frame : Frame) → let reply = reply_to state (is_open state) frame in length state ≡ state_length
    → (get_or reply.bytes 0 0 ≡ 0 → ⊥) → (length reply.bytes ≡ 1) × (reply.state ≡ state)
refusal_alone state frame long = go (is_open state) refl frame
  where
    go : (b : Bool) → is_open state ≡ b → (f : Frame) → Alone state (reply_to state b f)
    go true o Bad = refused_alone state 10
    go false o Bad = refused_alone state 10
    go true o (Open n) = refused_alone state 11
    go false o (Open n) = opening_alone state n
    go true o (Milking stall yield) = milking_alone state long o stall yield
    go true o (Meeting p q) = meeting_alone state long o p q
    go true o (Show stall) = showing_alone state stall
    go true o (Heard stall) = hearing_alone state stall
    go true o (Settled stall) = settling_alone state stall
    go false o (Milking stall yield) = refused_alone state 11
    go false o (Meeting p q) = refused_alone state 11
    go false o (Show stall) = refused_alone state 11
    go false o (Heard stall) = refused_alone state 11
    go false o (Settled stall) = refused_alone state 11
