-- The plain machine that always does the enabled request of the least device, and in it the least number.
use Rattle.std.specs.Prelude.{ℕ, zero, suc, ◌+◌, if◌then◌else◌, nat_lt, List, [], ◌∷◌, Option, Some, None, map, filter, take}
use Rattle.vfm_types.specs.declared.desc.Desc.{Desc}
use Rattle.vfm_types.specs.Desc.{shape_at, device_count, all_budgets}
use Rattle.vfm_types.specs.Machine.{Machine, device_of, described}
use Rattle.vfm_types.specs.Requests.{is_enabled, do_request}

-- the least number of a list
abbrev pub least_of : List ℕ → Option ℕ
least_of [] = None
least_of (n ∷ ns) = Some (least_with n ns)
  where
    least_with : ℕ → List ℕ → ℕ
    least_with n [] = n
    least_with n (k ∷ ks) = if nat_lt k n then least_with k ks else least_with n ks

-- the least enabled request of device d
abbrev pub least_enabled : Desc → Machine → ℕ → Option ℕ
least_enabled D m d = least_of (filter (is_enabled D m d) (map (λ request. request.0) (take (shape_at D d).window (device_of m d).pending)))

-- the first of two answers
abbrev pub or_else : Option (ℕ × ℕ) → Option (ℕ × ℕ) → Option (ℕ × ℕ)
or_else None other = other
or_else (Some found) other = Some found

-- the request under its device's number
abbrev pub of_device : ℕ → Option ℕ → Option (ℕ × ℕ)
of_device d None = None
of_device d (Some n) = Some (d, n)

-- the least enabled request of the least of `count` devices from d on that has one
abbrev pub next_serial : Desc → Machine → ℕ → ℕ → Option (ℕ × ℕ)
next_serial D m d zero = None
next_serial D m d (suc count) = or_else (of_device d (least_enabled D m d)) (next_serial D m (d + 1) count)

-- the machine goes on with the request that is found, if one is
abbrev pub after_found : Desc → (Machine → Machine) → Machine → Option (ℕ × ℕ) → Machine
after_found D rest m None = m
after_found D rest m (Some request) = rest (do_request D m request.0 request.1)

-- at most so many requests done, one after another, as long as one is enabled
abbrev pub serial_from : Desc → ℕ → Machine → Machine
serial_from D zero m = m
serial_from D (suc turns) m = after_found D (λ next. serial_from D turns next) m (next_serial D m 0 (device_count D))

-- the described machine after every request is done that comes to be enabled
abbrev pub serial : Desc → Machine
serial D = serial_from D (all_budgets D) (described D)
