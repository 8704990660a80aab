-- Equal meanings have equal answers, so an equation with an outcome fixes what a call answers: for every call by one law, from what its result is
-- on paper.
--   number-injective           == a condition is told from its number
--   answer_of back             == the answer that an outcome tells
--   outcome-told f back        == an answer is told from its outcome, where a result is told by back from what it is on paper
--   outcome_of-injective       == answers whose outcomes are equal are equal
use Rattle.std.specs.Prelude.{◌≡◌, ℕ, List, [], ◌∷◌, get_or, Result, Ok, Err, refl}
use mathlib.Core.Path.{ap}
use Rattle.bits.proofs.Injective.{told-apart}
use Rattle.rules.specs.Outcome.{Outcome, gives, refuses}
use Rattle.rules.specs.Refusal.{number, outcome_of}
use Rattle.rules.specs.declared.refusal.Reason.{Reason}
use Rattle.rules.specs.declared.refusal.Reason.TheVariants as reason
use Rattle.rules.specs.declared.refusal.Refusal.{Refusal}

-- the conditions by their numbers; a number that is no condition's is told as the last one
abbrev reasons : List Reason
reasons = reason.StrayTableBit ∷ reason.TooManyFlags ∷ reason.ShortTable ∷ reason.ShortCoefficients ∷ reason.StrayCoefficient ∷
    reason.ShortOutput ∷ reason.BadMark ∷ reason.BadPayload ∷ reason.FewOperands ∷ reason.ManyRecords ∷ reason.BadEnd ∷ reason.BadSetting ∷
    reason.Differs ∷ reason.TooCostly ∷ reason.ShortStars ∷ reason.BadRuleMark ∷ reason.PastEnd ∷ []

abbrev reason_of : ℕ → Reason
reason_of n = get_or reasons n reason.StrayTableBit

reason-told : (r : Reason) → reason_of (number r) ≡ r
reason-told reason.TooManyFlags = refl
reason-told reason.ShortTable = refl
reason-told reason.ShortCoefficients = refl
reason-told reason.StrayCoefficient = refl
reason-told reason.ShortOutput = refl
reason-told reason.BadMark = refl
reason-told reason.BadPayload = refl
reason-told reason.FewOperands = refl
reason-told reason.ManyRecords = refl
reason-told reason.BadEnd = refl
reason-told reason.BadSetting = refl
reason-told reason.Differs = refl
reason-told reason.TooCostly = refl
reason-told reason.ShortStars = refl
reason-told reason.BadRuleMark = refl
reason-told reason.PastEnd = refl
reason-told reason.StrayTableBit = refl

pub number-injective : (r q : Reason) → number r ≡ number q → r ≡ q
number-injective = told-apart number reason_of reason-told

abbrev pub answer_of : {A B : Type 0} → (B → A) → Outcome B → Result A Refusal
answer_of back (gives b) = Ok (back b)
answer_of back (refuses k p) = Err (record { reason = reason_of k; place = p })

pub outcome-told : {A B : Type 0} (f : A → B) (back : B → A) → ((a : A) → back (f a) ≡ a) → (r : Result A Refusal)
    → answer_of back (outcome_of f r) ≡ r
outcome-told f back e (Ok a) = ap Ok (e a)
outcome-told f back e (Err r) = ap (λ (k : Reason). Err (record { reason = k; place = r.place })) (reason-told r.reason)

pub outcome_of-injective : {A B : Type 0} (f : A → B) (back : B → A) → ((a : A) → back (f a) ≡ a) → (r q : Result A Refusal)
    → outcome_of f r ≡ outcome_of f q → r ≡ q
outcome_of-injective f back e = told-apart (outcome_of f) (answer_of back) (outcome-told f back e)
