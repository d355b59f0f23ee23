-- Settings depend on the table's keys alone.
use Rattle.std.proofs.Common.{◌≡◌, [], ◌∷◌, refl}
use Rattle.serde_json.specs.Data.{Data}
use Rattle.kn_config.specs.declared.key.Key.TheVariants as key
use Rattle.kn_config.specs.Config.{settings_of, targets_of, windows_of, idling_of, scales_of}
use Rattle.kn_config.specs.Laws.{HaveSame, setting_keys}

targets_same : (a b : Data) → HaveSame (key.ContainerConcurrencyTargetPercentage ∷ key.ContainerConcurrencyTargetDefault ∷ key.RequestsPerSecondTargetDefault ∷ key.TargetBurstCapacity ∷ []) a b → targets_of a ≡ targets_of b
unfolding targets_of
targets_same a b same = rw (same.0, same.1.0, same.1.1.0, same.1.1.1.0) refl

windows_same : (a b : Data) → HaveSame (key.StableWindow ∷ key.PanicWindowPercentage ∷ key.PanicThresholdPercentage ∷ key.MaxScaleUpRate ∷ key.MaxScaleDownRate ∷ []) a b → windows_of a ≡ windows_of b
unfolding windows_of
windows_same a b same = rw (same.0, same.1.0, same.1.1.0, same.1.1.1.0, same.1.1.1.1.0) refl

idling_same : (a b : Data) → HaveSame (key.EnableScaleToZero ∷ key.ScaleToZeroGracePeriod ∷ key.ScaleToZeroPodRetentionPeriod ∷ []) a b → idling_of a ≡ idling_of b
unfolding idling_of
idling_same a b same = rw (same.0, same.1.0, same.1.1.0) refl

scales_same : (a b : Data) → HaveSame (key.MinScale ∷ key.MaxScale ∷ key.AllowZeroInitialScale ∷ key.InitialScale ∷ key.ScaleDownDelay ∷ []) a b → scales_of a ≡ scales_of b
unfolding scales_of
scales_same a b same = rw (same.0, same.1.0, same.1.1.0, same.1.1.1.0, same.1.1.1.1.0) refl

pub settings_same : (a b : Data) → HaveSame setting_keys a b → settings_of a ≡ settings_of b
unfolding settings_of
settings_same a b same =
    let windows = same.1.1.1.1 in
    let idling = windows.1.1.1.1.1 in
    let scales = idling.1.1.1 in
    rw (
      targets_same a b (same.0, (same.1.0, (same.1.1.0, (same.1.1.1.0, tt)))),
      windows_same a b (windows.0, (windows.1.0, (windows.1.1.0, (windows.1.1.1.0, (windows.1.1.1.1.0, tt))))),
      idling_same a b (idling.0, (idling.1.0, (idling.1.1.0, tt))),
      scales_same a b scales,
    ) refl
