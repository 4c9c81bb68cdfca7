mod CacheLaws
