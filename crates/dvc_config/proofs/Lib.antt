mod PieceLemmas
mod LineLemmas
mod SettingLemmas
mod UrlLemmas
