-- `text::out::put_text` meets its contract: the text in place of the bytes from the place on is a run of stores there.
use Rattle.std.proofs.Common.{◌++◌, ◌+◌, ◌-◌, ◌∙◌, List, ℕ, arith, length, take, drop, refl, sym, ap}
use lib.Seq.{sets-eq, take_all}
use Rattle.std.proofs.lemmas.Slice.{put_mid-paste}
use Rattle.text.proofs.out.put_text.Goals as goal

pub returns : goal.returns
returns c =
    let at = c.args.at in
    let out = c.args.out.now in
    let text = c.args.text.now in
    record {
      place = refl;
      within = omega arith;
      entries = put_mid-paste at (at + length text - at) out _ text (length text) c.copy_from_slice.ensures.after (omega arith) refl
          ∙ ap (λ (l : List ℕ). take at out ++ l ++ drop (at + length text) out) (take_all (length text) text (omega arith))
          ∙ sym (sets-eq text out at (omega arith));
    }
