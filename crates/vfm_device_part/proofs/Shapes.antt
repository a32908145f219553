-- What a valid description says of the BARs of a device.
use Rattle.std.proofs.Common.{◌≡◌, ℕ, ◌<◌, ◌≤◌, ◌%◌}
use Rattle.vfm_types.specs.declared.desc.Desc.{Desc}
use Rattle.vfm_types.specs.Desc.{bar_bytes, device_count, shape_at}
use Rattle.vfm_types.specs.Valid.{IsValid}
use Rattle.vfm_types.proofs.BarSizes.{IsBarSize, all_bars}

size_of : (D : Desc) (d : ℕ) → IsValid D → d < device_count D → IsBarSize (bar_bytes (shape_at D d))
size_of D d valid inside = all_bars (shape_at D d) (valid.in_range.devices d inside).bars

-- they are whole blocks
pub bars_are_blocks : (D : Desc) (d : ℕ) → IsValid D → d < device_count D → bar_bytes (shape_at D d) % 64 ≡ 0
bars_are_blocks D d valid inside = (size_of D d valid inside).whole

-- and no more than 65,536 bytes
pub bars_are_few : (D : Desc) (d : ℕ) → IsValid D → d < device_count D → bar_bytes (shape_at D d) ≤ 65536
bars_are_few D d valid inside = (size_of D d valid inside).high
