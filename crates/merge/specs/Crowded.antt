-- That the label limit is exact: two accepted images, the same for every n, whose names of the pair 1, 2 use up every label below it. By evaluation, for N from 2 to 10, and 16.
use Rattle.std.specs.Prelude.{ℕ, ◌+◌, ◌-◌, ◌*◌, ◌≡◌, refl, ◌||◌, cond, List, [], ◌∷◌, map, eqb, replicate}
use Rattle.image.specs.Layout.{label_limit}
use Rattle.image.specs.Encode.{Table, encode}
use Rattle.image.specs.Check.{checked, number_of}
use Rattle.image.specs.declared.Name.{Name}
use Rattle.image.specs.declared.Name.TheVariants.{With}
use Rattle.merge.specs.Label.{new_label}
use Rattle.merge.specs.Examples.{evaluated}
use Rattle.merge.specs.Call.{MeetingOutcome, refused_meeting, meeting_call}

abbrev meeting : ℕ → ℕ → Name
meeting partner label = With (record { partner = partner; label = label })

-- The table of head 1 or 2 of n. Every row names a meeting of the pair 1, 2 in both columns, each with a label of its own, but for the partner's latest, which stands in
-- rows 1 and 2 (for both r - 2 is 0): head 1 has the labels 0 to 2n - 2, head 2 those from 2n - 1 to 4n - 3. All others have met head 1 with label 0. Head 1 has every
-- order mark, head 2 those that it must have.
unfoldable pub crowded : ℕ → ℕ → Table
crowded n own =
    let partner = 3 - own in
    let before = (own - 1) * (2 * n - 1) in
    record {
      current = 0;
      names = λ r c. cond (eqb c own) (meeting partner (before + (r - 1))) (cond (eqb c partner) (meeting own (before + n + (r - 2))) (meeting 1 0));
      yields = λ r. 0;
      order = λ r s. eqb own 1 || eqb r s || eqb s own;
    }

abbrev image : ℕ → ℕ → List ℕ
image n own = encode n own (crowded n own)

call : ℕ → MeetingOutcome
call n = meeting_call (image n 1) (image n 2) (replicate n 5)

abbrev more_than_two : List ℕ
more_than_two = 3 ∷ 4 ∷ 5 ∷ 6 ∷ 7 ∷ 8 ∷ 9 ∷ 10 ∷ 16 ∷ []

abbrev sizes : List ℕ
sizes = 2 ∷ more_than_two

-- both images are accepted
crowded_accepted : (map (λ n. number_of (checked (image n 1))) sizes ≡ replicate 10 0) × (map (λ n. number_of (checked (image n 2))) sizes ≡ replicate 10 0)
unfolding evaluated crowded
crowded_accepted = (refl, refl)

-- and their label is the limit
crowded_labels : (map (λ n. new_label n 1 (crowded n 1) 2 (crowded n 2)) sizes ≡ map label_limit sizes) × (map label_limit sizes ≡ 6 ∷ 10 ∷ 14 ∷ 18 ∷ 22 ∷ 26 ∷ 30 ∷ 34 ∷ 38 ∷ 62 ∷ [])
unfolding evaluated crowded
crowded_labels = (refl, refl)

-- from three heads on they belong together, by what both have heard of the others, and the meeting gets this label
crowded_meetings : map (λ n. (call n).answer) more_than_two ≡ map label_limit more_than_two
unfolding evaluated crowded call
crowded_meetings = refl

-- two heads have heard of nobody else: with six different names their own rows have no meeting in common, 9 ..
crowded_two : call 2 ≡ refused_meeting (image 2 1) (image 2 2) (replicate 2 5) 9
unfolding evaluated crowded call
crowded_two = refl

-- .. and with one in common, here label 0, the highest label of a meeting is 5
crowded_five : (meeting_call
    (2 ∷ 1 ∷ 0 ∷ 0 ∷ 2 ∷ 0 ∷ 1 ∷ 1 ∷ 2 ∷ 2 ∷ 1 ∷ 1 ∷ 0 ∷ 0 ∷ 0 ∷ 0 ∷ 3 ∷ 3 ∷ [])
    (2 ∷ 2 ∷ 0 ∷ 0 ∷ 2 ∷ 0 ∷ 1 ∷ 3 ∷ 2 ∷ 0 ∷ 1 ∷ 4 ∷ 0 ∷ 0 ∷ 0 ∷ 0 ∷ 3 ∷ 2 ∷ [])
    (5 ∷ 5 ∷ [])
    ).answer
    ≡ 5
unfolding evaluated
crowded_five = refl
