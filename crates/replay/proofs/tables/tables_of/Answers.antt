-- Each flag count below 5 is one case, in which the numbers compute.
use Rattle.std.proofs.Common.{◌≡◌, ◌<◌, ◌^◌, ◌*◌, ◌%◌, ℕ, zero, suc, refl, arith}
use Rattle.replay.proofs.tables.tables_of.Goals as goal

within : (n : ℕ) → n < 5 → 1 * 2 ^ n % 2 ^ 32 < 32
within zero h = omega arith
within (suc zero) h = omega arith
within (suc (suc zero)) h = omega arith
within (suc (suc (suc zero))) h = omega arith
within (suc (suc (suc (suc zero)))) h = omega arith
within (suc (suc (suc (suc (suc n))))) h = absurd (omega arith)

exact : (n : ℕ) → n < 5 → 1 * 2 ^ (1 * 2 ^ n % 2 ^ 32) % 2 ^ 32 ≡ 2 ^ 2 ^ n
exact zero h = refl
exact (suc zero) h = refl
exact (suc (suc zero)) h = refl
exact (suc (suc (suc zero))) h = refl
exact (suc (suc (suc (suc zero)))) h = refl
exact (suc (suc (suc (suc (suc n))))) h = absurd (omega arith)

pub overflow_shl-result-2 : goal.overflow_shl-result-2
overflow_shl-result-2 c = within c.args.flags c.requires

pub returns : goal.returns
returns c = exact c.args.flags c.requires
