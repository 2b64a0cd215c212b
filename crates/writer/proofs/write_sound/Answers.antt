use Rattle.std.proofs.Common.{ℕ, replicate, refl}
use Rattle.writer.proofs.Finishing.{copied, write_none, write_stop, write_short, write_done, blank_of}
use Rattle.writer.proofs.write_sound.Goals as goal

pub returns-then-not-has_text : goal.returns-then-not-has_text
returns-then-not-has_text c = write_none _ _ c.has_text.ensures c.if-not-has_text.true

pub returns-then-place-lt-SPARE : goal.returns-then-place-lt-SPARE
returns-then-place-lt-SPARE c = write_stop (replicate {A = ℕ} 8224 0) (blank_of 8224 refl) _ c.has_text.ensures c.if-not-has_text.false c.put-place.ensures _ c.if-place-lt-SPARE.true

pub returns-then-buffer-size : goal.returns-then-buffer-size
returns-then-buffer-size c = write_short (replicate {A = ℕ} 8224 0) (blank_of 8224 refl) _ c.has_text.ensures c.if-not-has_text.false c.put-place.ensures _ c.if-place-lt-SPARE.false c.if-buffer-size.true

pub returns : goal.returns
returns c = write_done (replicate {A = ℕ} 8224 0) (blank_of 8224 refl) _ c.has_text.ensures c.if-not-has_text.false c.put-place.ensures _ c.if-place-lt-SPARE.false c.if-buffer-size.false (copied c.put-place.new.out c.put-place.result _ _ c.put-place.ensures.long c.copy_from_slice.ensures.after)
