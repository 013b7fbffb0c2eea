-- The link that was found is the one whose past is changed.
use Rattle.std.proofs.Common.{◌≡◌, ℕ, ◌+◌, ◌-◌, true, Option, Some, subst, arith}
use Rattle.amqp_performatives.specs.declared.bodies.Role.{Role}
use Rattle.amqp_rules.specs.View.{LinkView, same_role}

pub found-role : (role : Role) (on l : LinkView) → ◌≡◌ {A = Option LinkView} (Some on) (Some l) → same_role role on.role ≡ true → same_role role l.role ≡ true
found-role role on l found h = let same : on ≡ l = cc in subst (λ (l : LinkView). same_role role l.role ≡ true) same h

-- what was promised when so many had passed, less those
pub some-left : (n credit : ℕ) → (n + credit) - n ≡ credit
some-left n credit = omega arith

pub none-awaited : (window n : ℕ) → (0 + window) - n ≡ window - n
none-awaited window n = omega arith

pub and-none : (n : ℕ) → n + 0 ≡ n
and-none n = omega arith
