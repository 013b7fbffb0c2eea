-- A turn of what stands under a key.
use Rattle.std.proofs.Common.{◌≡◌, ℕ, Bool, List, Option, None, Some, Result, is_some, true, refl, subst, inl}
use Rattle.slab.specs.Slab.{Slab, get, with_value}
use Rattle.slab.proofs.SlabLemmas.{Updates-with_value}
use Rattle.amqp_rules.specs.declared.op.Op.{Op}
use Rattle.amqp_rules.specs.declared.refusal.Refusal.{Refusal}
use Rattle.amqp_rules.specs.declared.reply.Given.{Given}
use Rattle.amqp_conn.specs.Calling.{Performs}
use Rattle.amqp_ready.specs.declared.slot.Slot.{Slot}
use Rattle.amqp_ready.specs.declared.seat.Seat.{Seat}
use Rattle.amqp_ready.specs.declared.seat.Stage.{Stage}
use Rattle.amqp_ready.specs.Slotting.{Serves}
use Rattle.amqp_ready.proofs.Turning.{serves-none}
use Rattle.amqp_ready.specs.Seating.{held, IsOver, IsOverAt, IsTicked, LentAt, PerformsAt, TicksAt, Turns, TurnsAt, parts_of}

module _ {S H : Type 0} where
  -- behind a write under a key it stands there
  written-at : (slots : Slab (Seat S H)) (key : ℕ) (s t : Seat S H) → Some s ≡ get slots key → get (with_value slots key t) key ≡ Some t
  written-at slots key s t was = let u = Updates-with_value slots key t (subst (λ (o : Option (Seat S H)). is_some o ≡ true) was refl) in u.changed

  pub over-at : (slots : Slab (Seat S H)) (key : ℕ) (s t : Seat S H) → Some s ≡ get slots key → IsOver t.stage → IsOverAt (held (with_value slots key t) key)
  over-at slots key s t was h = rw (written-at slots key s t was) h

  pub performs-at : (slots : Slab (Seat S H)) (key : ℕ) (s t : Seat S H) (op : Op) (result : Result (Unit {0}) Refusal) → Some s ≡ get slots key → Performs s.slot.lent.conn.core op result t.slot.lent.conn.core
      → PerformsAt op (held slots key) (Some result) (held (with_value slots key t) key)
  performs-at slots key s t op result was h = rw (← was, written-at slots key s t was) ((t.slot, t.stage), refl, h)

module _ {S H : Type 0} (remaining written : S → Option (List ℕ)) (failed : S → Bool) (told : H → Option (List Given)) where
  pub turns-at : (slots : Slab (Seat S H)) (key : ℕ) (s t : Seat S H) → Some s ≡ get slots key → Turns s.stage t.stage (parts_of remaining written failed told s.slot) (parts_of remaining written failed told t.slot)
      → TurnsAt remaining written failed told (held slots key) (held (with_value slots key t) key)
  turns-at slots key s t was h = rw (← was, written-at slots key s t was) ((t.slot, t.stage), refl, h)

  pub lent-at : (slots : Slab (Seat S H)) (key : ℕ) (s t : Seat S H) → Some s ≡ get slots key → t.stage ≡ s.stage → Serves None (parts_of remaining written failed told s.slot) (parts_of remaining written failed told t.slot)
      → LentAt remaining written failed told (held slots key) (held (with_value slots key t) key)
  lent-at slots key s t was same h = rw (← was, written-at slots key s t was) ((t.slot, t.stage), refl, same, h)

  pub ticks-at : (slots : Slab (Seat S H)) (key : ℕ) (s t : Seat S H) → Some s ≡ get slots key → IsTicked s.stage t.stage → Serves None (parts_of remaining written failed told s.slot) (parts_of remaining written failed told t.slot)
      → TicksAt remaining written failed told (held slots key) (held (with_value slots key t) key)
  ticks-at slots key s t was ticked h = rw (← was, written-at slots key s t was) ((t.slot, t.stage), refl, ticked, h)

  pub ticks-none : (old new : Option (Slot S H × Stage)) → new ≡ old → TicksAt remaining written failed told old new
  ticks-none None new e = e
  ticks-none (Some p) new e = (p, e, inl refl, serves-none (parts_of remaining written failed told p.0))
