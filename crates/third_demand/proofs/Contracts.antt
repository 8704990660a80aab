-- What the demand calls compiling and examining is what the two calls promise: `Learnt` of a function is all that its callers are told by its
-- contract, of its arguments, its result and its arguments at exit. So a weaker contract would not prove these.
--   compiler-keeps       == the contract of `compiler::build_anf_expr` tells `Compiles`
--   examiner-keeps       == the contract of `examiner::examine` tells `Examines`
use borrow.Fn.Kinds.{Dens, ended_of}
use contract.Lifetimes.{Lfts}
use denote.Triple.Clauses.{AtExit}
use Rattle.compiler.proofs.build_anf_expr.Kinds as compiling
use Rattle.compiler.proofs.build_anf_expr.Reads as compiler
use Rattle.compiler.specs.declared.Expression.{Expression}
use Rattle.examiner.proofs.examine.Kinds as examining
use Rattle.examiner.proofs.examine.Reads as examiner
use Rattle.rules.specs.declared.refusal.Refusal.{Refusal}
use Rattle.std.specs.Prelude.{Result}
use Prim.Native.Nat.{ℕ}
use Rattle.third_demand.proofs.ThirdDemand.{Compiles, Examines}

pub compiler-keeps : (κs : Lfts 2) (a : Dens κs compiling.ps) (r : Result Expression Refusal) (e : AtExit (ended_of 2 compiling.ps compiling.r) κs)
    → compiler.Learnt κs a r e → Compiles a.0 a.1.0.now a.1.1.0.now e.1.1.0.now r
compiler-keeps κs a r e told = told

pub examiner-keeps : (κs : Lfts 2) (a : Dens κs examining.ps) (r : Result ℕ Refusal) (e : AtExit (ended_of 2 examining.ps examining.r) κs)
    → examiner.Learnt κs a r e → Examines a.0 a.1.0.now a.1.1.0.now r
examiner-keeps κs a r e told = told
